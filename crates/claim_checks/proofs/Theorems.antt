-- The checks of w are those of an admission where the rows decide membership, and have their numbers: both go check by
-- check.
use mathlib.Core.Path.{refl, ap}
use Rattle.letters.specs.Lists.{any_of}
use Rattle.refusals.specs.declared.Refusal.{Refusal}
use Rattle.refusals.specs.Refusals.{refuse_if, ◌then◌}
use Rattle.sheet.proofs.Numbers.{law-of-refusal, refuse_if-lawful, then-lawful}
use Rattle.admission.specs.Distance.{claimed_weight_fault, claimed_detected_fault, claimed_in_group_fault}
use Rattle.claim_checks.specs.Claim.{claim_fault}
use Rattle.claim_checks.specs.Statements.{ClaimChecksAreOfAdmission, ClaimRefusalNumbers}

pub claim-checks-are-of-admission : ClaimChecksAreOfAdmission
unfolding claim_fault claimed_in_group_fault
claim-checks-are-of-admission at c hs decides =
    ap (λ t. claimed_weight_fault at c then claimed_detected_fault at c then refuse_if t (Refusal.ClaimedInGroup at))
    decides

pub claim-refusal-numbers : ClaimRefusalNumbers
unfolding claim_fault claimed_weight_fault claimed_detected_fault any_of
claim-refusal-numbers at c hs =
    law-of-refusal (then-lawful (refuse_if-lawful _ _ refl)
    (then-lawful (refuse_if-lawful _ _ refl) (refuse_if-lawful _ _ refl)))
