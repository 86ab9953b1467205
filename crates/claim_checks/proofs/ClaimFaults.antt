-- The three checks of w by their tests, as the code makes them: by the weight, by the syndrome as a mask, and by what
-- the reduced rows contain.
use mathlib.Core.Bool.{Bool, not}
use mathlib.Core.Path.{◌≡◌, ap, ap₂, sym, ◌∙◌}
use Prim.Native.Nat.{ℕ}
use lib.Dec.{eqb}
use Rattle.pauli.specs.Product.{weight}
use Rattle.pauli.specs.Syndrome.{syndrome_mask}
use Rattle.pauli.proofs.Undetected.{mask-detected}
use Rattle.code_record.specs.declared.Code.{Code}
use Rattle.code_record.specs.Record.{generators}
use Rattle.refusals.specs.declared.Refusal.{Refusal}
use Rattle.refusals.specs.Refusals.{refuse_if, ◌then◌}
use Rattle.stabilizer.specs.Canonical.{reduces_to_identity}
use Rattle.reduced_rows.specs.declared.ReducedRows.{ReducedRows}
use Rattle.reduced_rows.specs.Rows.{rows_in}
use Rattle.admission.specs.Distance.{claimed_weight_fault, claimed_detected_fault}
use Rattle.claim_checks.specs.Claim.{claim_fault}

pub claim-found : (at : ℕ) (c : Code) (hs : ReducedRows) {heavy detected contained : Bool}
    → not (eqb (weight c.w) c.d) ≡ heavy → not (eqb (syndrome_mask (generators c) c.w) 0) ≡ detected
    → reduces_to_identity hs.n (rows_in hs) c.w ≡ contained
    → (refuse_if heavy (Refusal.ClaimedWeight at) then refuse_if detected (Refusal.ClaimedAnticommutes at)
    then refuse_if contained (Refusal.ClaimedInGroup at))
    ≡ claim_fault at c hs
unfolding claim_fault claimed_weight_fault claimed_detected_fault
claim-found at c hs {heavy} {detected} {contained} by-weight by_mask by_rows =
    ap (λ t. refuse_if t (Refusal.ClaimedWeight at) then refuse_if detected (Refusal.ClaimedAnticommutes at)
    then refuse_if contained (Refusal.ClaimedInGroup at)) (sym by-weight)
    ∙ ap₂ (λ s t. refuse_if (not (eqb (weight c.w) c.d)) (Refusal.ClaimedWeight at)
    then refuse_if s (Refusal.ClaimedAnticommutes at) then refuse_if t (Refusal.ClaimedInGroup at))
    (sym by_mask ∙ mask-detected (generators c) c.w) (sym by_rows)
