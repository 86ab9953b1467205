-- What a row is, from the masks and the phase of what is left of it.
use mathlib.Core.Bool.{Bool, true, false, cond, ◌&&◌}
use mathlib.Core.Path.{◌≡◌, refl, ap, sym, ◌∙◌}
use Prim.Native.Nat.{◌%◌}
use lib.Dec.{eqb}
use borrow.Author.Tests.{eq-eqb, ne_eqb}
use Rattle.pauli.specs.declared.Pauli.{Pauli}
use Rattle.pauli.specs.Product.{identity, same_masks, same_pauli, has_phase}
use Rattle.code_record.proofs.Limits.{both}
use Rattle.code_record.proofs.Tests.{eqb_swap}
use Rattle.stabilizer.specs.Checks.{minus_identity}
use Rattle.reduced_rows.specs.declared.Kind.{Kind}
use Rattle.reduced_rows.specs.RowKinds.{kind_of}

-- Where nothing but the phase is left, the phase decides.
phase-decides : (Q : Pauli) → same_masks Q identity ≡ true → same_pauli minus_identity Q ≡ eqb 2 (Q.p % 4)
unfolding same_pauli has_phase same_masks minus_identity
phase-decides Q none =
    let zeros = both (eqb Q.a 0) (eqb Q.b 0) none in
    rw (eqb_swap 0 Q.a, eqb_swap 0 Q.b, zeros.0, zeros.1) (and_one (eqb 2 (Q.p % 4)))
  where
    and_one : (t : Bool) → (t && true) ≡ t
    and_one true = refl
    and_one false = refl

module _ (Q : Pauli) where
  pub kind-independent : same_masks Q identity ≡ false → Kind.Independent ≡ kind_of Q
  unfolding kind_of
  kind-independent some =
      ap (λ t. cond t (cond (same_pauli minus_identity Q) Kind.MinusIdentity Kind.PlusIdentity) Kind.Independent)
      (sym some)

  kind-of-phase : {t : Bool} → same_masks Q identity ≡ true → eqb 2 (Q.p % 4) ≡ t
      → cond t Kind.MinusIdentity Kind.PlusIdentity ≡ kind_of Q
  unfolding kind_of
  kind-of-phase none e =
      ap (λ t. cond t Kind.MinusIdentity Kind.PlusIdentity) (sym (phase-decides Q none ∙ e))
      ∙ ap (λ t. cond t (cond (same_pauli minus_identity Q) Kind.MinusIdentity Kind.PlusIdentity) Kind.Independent)
      (sym none)

  pub kind-minus : same_masks Q identity ≡ true → Q.p % 4 ≡ 2 → Kind.MinusIdentity ≡ kind_of Q
  kind-minus none e = kind-of-phase none (eq-eqb 2 (Q.p % 4) (sym e))

  pub kind-plus : same_masks Q identity ≡ true → (Q.p % 4 ≡ 2 → ⊥) → Kind.PlusIdentity ≡ kind_of Q
  kind-plus none e = kind-of-phase none (ne_eqb 2 (Q.p % 4) (λ h. e (sym h)))
