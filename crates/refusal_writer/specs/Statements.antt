-- What is stated of the lines of a refusal.
use Rattle.std.specs.Prelude.{Some, None}
use Rattle.std.specs.Result.{result_err}
use Rattle.std.specs.Prelude.{List, [], ◌∷◌, ◌≡◌, ℕ}
use Rattle.refusals.specs.declared.Refusal.{Refusal}
use Rattle.sheet.specs.Statements.{RefusalLeaves, Among}
use Rattle.sheet.specs.Text.{written}
use Rattle.reporting.specs.Report.{refusal_text}
use Rattle.refusal_writer.specs.RefusalLines.{pair_fault, write_refusal}

-- RULES, "The report": but for two errors that no code has, the call refuses with 17 alone, as the report does.
abbrev pub RefusalIsWritten : Type 0
RefusalIsWritten =
    (refusal : Refusal) (buffer : List ℕ) → pair_fault refusal ≡ None
    → write_refusal refusal buffer ≡ written None (refusal_text refusal) buffer

-- RULES, "Calls and buffers": a refusal of the call leaves the buffer as it was.
abbrev pub RefusalRefusalsLeave : Type 0
RefusalRefusalsLeave =
    (refusal : Refusal) (buffer : List ℕ) → RefusalLeaves result_err buffer (write_refusal refusal buffer)

-- RULES, "Calls and buffers": the numbers with which the call refuses.
abbrev pub RefusalRefusalNumbers : Type 0
RefusalRefusalNumbers =
    (refusal : Refusal) (buffer : List ℕ) (given : Refusal)
    → result_err (write_refusal refusal buffer).answer ≡ Some given → Among (15 ∷ 17 ∷ []) given
