-- What is stated of the lines of the families.
use Rattle.std.specs.Prelude.{Some}
use Rattle.std.specs.Result.{result_err}
use Rattle.std.specs.Prelude.{List, [], ◌∷◌, ◌≡◌, ℕ}
use Rattle.code_record.specs.declared.Code.{Code}
use Rattle.refusals.specs.declared.Refusal.{Refusal}
use Rattle.sheet.specs.Statements.{RefusalLeaves, Among}
use Rattle.families_writer.specs.Families.{write_families}

-- RULES, "Calls and buffers": a refusal leaves the buffer as it was.
abbrev pub FamiliesRefusalsLeave : Type 0
FamiliesRefusalsLeave =
    (c : Code) (buffer : List ℕ) → RefusalLeaves result_err buffer (write_families c buffer)

-- RULES, "Calls and buffers": the numbers with which the call refuses.
abbrev pub FamiliesRefusalNumbers : Type 0
FamiliesRefusalNumbers =
    (c : Code) (buffer : List ℕ) (refusal : Refusal)
    → result_err (write_families c buffer).answer ≡ Some refusal → Among (15 ∷ 17 ∷ []) refusal
