-- What is stated of the lines of n, k, d and t.
use Rattle.std.specs.Prelude.{Some}
use Rattle.std.specs.Result.{result_err}
use Rattle.std.specs.Prelude.{List, [], ◌∷◌, ◌++◌, ◌≡◌, ℕ}
use Rattle.refusals.specs.declared.Refusal.{Refusal}
use Rattle.code_record.specs.declared.Code.{Code}
use Rattle.code_record.specs.Record.{logical_count, radius}
use Rattle.sheet.specs.Statements.{RefusalLeaves, Among}
use Rattle.stabilizer.specs.Canonical.{canonical_text}
use Rattle.reporting.specs.Report.{code_text}
use Rattle.header_writer.specs.Header.{header_text, write_header}

-- RULES, "The report": they stand before the canonical generators.
abbrev pub HeaderBeginsCode : Type 0
HeaderBeginsCode = (c : Code) → code_text c ≡ header_text c.n (logical_count c) c.d (radius c) ++ canonical_text c

-- RULES, "Calls and buffers": a refusal leaves the buffer as it was.
abbrev pub HeaderRefusalsLeave : Type 0
HeaderRefusalsLeave =
    (n k d t : ℕ) (buffer : List ℕ) → RefusalLeaves result_err buffer (write_header n k d t buffer)

-- RULES, "Calls and buffers": the number with which the call refuses.
abbrev pub HeaderRefusalNumbers : Type 0
HeaderRefusalNumbers =
    (n k d t : ℕ) (buffer : List ℕ) (refusal : Refusal)
    → result_err (write_header n k d t buffer).answer ≡ Some refusal → Among (17 ∷ []) refusal
