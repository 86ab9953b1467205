-- What is stated of the checks of a record.
use Rattle.std.specs.Prelude.{Some, [], ◌∷◌, ◌≡◌, ℕ}
use Rattle.code_record.specs.declared.Code.{Code}
use Rattle.code_record.specs.Record.{limits_fault}
use Rattle.refusals.specs.declared.ErrorPair.{ErrorPair}
use Rattle.refusals.specs.declared.Refusal.{Refusal}
use Rattle.refusals.specs.Refusals.{◌then◌}
use Rattle.sheet.specs.Statements.{Among}
use Rattle.admission.specs.Admission.{code_fault}
use Rattle.admission.specs.Statements.{ShowsEarliest}

-- RULES, "Refusals": the numbers with which the call refuses.
abbrev pub CodeRefusalNumbers : Type 0
CodeRefusalNumbers =
    (at : ℕ) (c : Code) (refusal : Refusal) → (limits_fault c then code_fault at c) ≡ Some refusal
    → Among (6 ∷ 7 ∷ 8 ∷ 9 ∷ 10 ∷ 11 ∷ 12 ∷ 13 ∷ 14 ∷ 15 ∷ []) refusal

-- RULES, "Distance": where the call refuses a record with 14, it does so at the line of w, and the two errors are from
-- the earliest logical error of all.
abbrev pub CodeRefusalShowsEarliest : Type 0
CodeRefusalShowsEarliest =
    (at : ℕ) (c : Code) (line : ℕ) (pair : ErrorPair)
    → (limits_fault c then code_fault at c) ≡ Some (Refusal.DistanceRefuted line pair)
    → ShowsEarliest at c (Refusal.DistanceRefuted line pair)
