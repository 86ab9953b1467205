-- What is stated of the checks of w.
use Rattle.std.specs.Prelude.{Some, [], ◌∷◌, ◌≡◌, ℕ}
use Rattle.code_record.specs.declared.Code.{Code}
use Rattle.code_record.specs.Record.{generators}
use Rattle.refusals.specs.declared.Refusal.{Refusal}
use Rattle.refusals.specs.Refusals.{◌then◌}
use Rattle.sheet.specs.Statements.{Among}
use Rattle.stabilizer.specs.Canonical.{reduces_to_identity}
use Rattle.stabilizer.specs.Group.{in_group_up_to_phase}
use Rattle.reduced_rows.specs.declared.ReducedRows.{ReducedRows}
use Rattle.reduced_rows.specs.Rows.{rows_in}
use Rattle.admission.specs.Distance.{claimed_weight_fault, claimed_detected_fault, claimed_in_group_fault}
use Rattle.claim_checks.specs.Claim.{claim_fault}

-- Where the rows contain w exactly where it is in the group, phase aside, these are 11 to 13 of an admission.
abbrev pub ClaimChecksAreOfAdmission : Type 0
ClaimChecksAreOfAdmission =
    (at : ℕ) (c : Code) (hs : ReducedRows)
    → reduces_to_identity hs.n (rows_in hs) c.w ≡ in_group_up_to_phase (generators c) c.w
    → claim_fault at c hs
    ≡ (claimed_weight_fault at c then claimed_detected_fault at c then claimed_in_group_fault at c)

-- RULES, "Refusals": the numbers with which the call refuses.
abbrev pub ClaimRefusalNumbers : Type 0
ClaimRefusalNumbers =
    (at : ℕ) (c : Code) (hs : ReducedRows) (refusal : Refusal) → claim_fault at c hs ≡ Some refusal
    → Among (11 ∷ 12 ∷ 13 ∷ []) refusal
