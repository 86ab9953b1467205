-- What is stated of check 14.
use Rattle.std.specs.Prelude.{Some, Ok}
use Rattle.std.specs.Prelude.{[], ◌∷◌, ◌≡◌, ℕ}
use Rattle.code_record.specs.declared.Code.{Code}
use Rattle.refusals.specs.declared.Refusal.{Refusal}
use Rattle.sheet.specs.Statements.{Among}
use Rattle.reduced_rows.specs.declared.ReducedRows.{ReducedRows}
use Rattle.elimination.specs.Answers.{elimination}
use Rattle.admission.specs.Distance.{distance_fault}
use Rattle.distance.specs.Search.{distance_by}

-- RULES, "Distance": with the canonical generators of a code that passes 6 to 8, the check is 14 as it is defined.
abbrev pub DistanceIsChecked : Type 0
DistanceIsChecked =
    (at : ℕ) (c : Code) → (elimination c).answer ≡ Ok tt
    → distance_by at c (elimination c).reduced ≡ distance_fault at c

-- RULES, "Refusals": the number with which the call refuses.
abbrev pub DistanceRefusalNumbers : Type 0
DistanceRefusalNumbers =
    (at : ℕ) (c : Code) (rows : ReducedRows) (refusal : Refusal) → distance_by at c rows ≡ Some refusal
    → Among (14 ∷ []) refusal
