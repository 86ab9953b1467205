-- The checks of w in their order: the first that finds a fault answers.
use mathlib.Core.Bool.{true, false, not}
use mathlib.Core.Path.{◌≡◌, refl, ap, sym, ◌∙◌}
use Prim.Native.Nat.{ℕ}
use lib.Dec.{eqb}
use borrow.Author.Tests.{eq-eqb, ne_eqb}
use Rattle.code_record.specs.Record.{generators}
use Rattle.refusals.specs.Refusals.{refuse_if, ◌then◌}
use Rattle.claim_checks.proofs.ClaimFaults.{claim-found}
use Rattle.claim_checks.proofs.check_claim.Goals as goal

-- What a test of a number tells of the number that it is.
unequal : {found real : ℕ} (asked : ℕ) → found ≡ real → (found ≡ asked → ⊥) → not (eqb real asked) ≡ true
unequal {found} asked e other = ap (λ (m : ℕ). not (eqb m asked)) (sym e) ∙ ap not (ne_eqb found asked other)

equal : {found real : ℕ} (asked : ℕ) → found ≡ real → found ≡ asked → not (eqb real asked) ≡ false
equal {found} asked e same = ap (λ (m : ℕ). not (eqb m asked)) (sym e) ∙ ap not (eq-eqb found asked same)

pub returns-then-weight-code : goal.returns-then-weight-code
unfolding refuse_if ◌then◌
returns-then-weight-code c =
    let a = c.args in
    claim-found a.at a.code a.reduced (unequal a.code.d c.weight.ensures c.if-weight-code.true) refl refl

pub returns-then-syndrome_mask-ne0 : goal.returns-then-syndrome_mask-ne0
unfolding refuse_if ◌then◌ generators
returns-then-syndrome_mask-ne0 c =
    let a = c.args in
    claim-found a.at a.code a.reduced (equal a.code.d c.weight.ensures c.if-weight-code.false)
    (unequal 0 c.syndrome_mask.ensures c.if-syndrome_mask-ne0.true) refl

pub returns-then-contains : goal.returns-then-contains
unfolding refuse_if ◌then◌ generators
returns-then-contains c =
    let a = c.args in
    claim-found a.at a.code a.reduced (equal a.code.d c.weight.ensures c.if-weight-code.false)
    (equal 0 c.syndrome_mask.ensures c.if-syndrome_mask-ne0.false) (sym c.contains.ensures ∙ c.if-contains.true)

pub returns : goal.returns
unfolding refuse_if ◌then◌ generators
returns c =
    let a = c.args in
    claim-found a.at a.code a.reduced (equal a.code.d c.weight.ensures c.if-weight-code.false)
    (equal 0 c.syndrome_mask.ensures c.if-syndrome_mask-ne0.false) (sym c.contains.ensures ∙ c.if-contains.false)
