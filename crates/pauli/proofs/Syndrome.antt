-- The syndrome of a product is the sum of the two syndromes, bit by bit, whatever the rows. So two Paulis have one
-- syndrome exactly where their product commutes with every row.
use mathlib.Core.Bool.{Bool, true, false, not, xor, not-not, false≢true}
use mathlib.Core.List.{List, [], ◌∷◌, zip_with, head-eq_of_cons-eq, tail-eq_of_cons-eq}
use mathlib.Core.Logic.{◌↔◌}
use mathlib.Core.Path.{◌≡◌, refl, ap, ap₂, sym, ◌∙◌}
use lib.Dec.{eqb}
use Rattle.pauli.specs.declared.Pauli.{Pauli}
use Rattle.letters.specs.Lists.{all_of}
use Rattle.pauli.specs.Product.{product, commutes, anticommutes}
use Rattle.pauli.specs.Syndrome.{syndrome, add_bits}
use Rattle.pauli.proofs.Product.{anticommutes-product, symplectic-comm}

pub syndrome-product : (rows : List Pauli) (P Q : Pauli)
    → syndrome rows (product P Q) ≡ add_bits (syndrome rows P) (syndrome rows Q)
unfolding syndrome add_bits zip_with
syndrome-product [] P Q = refl
syndrome-product (g ∷ rows) P Q = ap₂ ◌∷◌ (anticommutes-product g P Q) (syndrome-product rows P Q)

-- ---- one syndrome

pub commutes-comm : (P Q : Pauli) → commutes P Q ≡ commutes Q P
unfolding commutes
commutes-comm P Q = ap (λ x. eqb x 0) (symplectic-comm P Q)

-- Two bits are the same exactly where their sum, negated, is true.
sum_told : (x y : Bool) → (x ≡ y) ↔ (not (xor x y) ≡ true)
unfolding xor
sum_told true true = (λ _. refl, λ _. refl)
sum_told true false = (λ h. sym h, λ h. sym h)
sum_told false true = (λ h. h, λ h. h)
sum_told false false = (λ _. refl, λ _. refl)

commutes-sum : (g P Q : Pauli) → commutes (product P Q) g ≡ not (xor (anticommutes g P) (anticommutes g Q))
unfolding anticommutes
commutes-sum g P Q =
    commutes-comm (product P Q) g ∙ sym (not-not (commutes g (product P Q))) ∙ ap not (anticommutes-product g P Q)

commutes-told : (g P Q : Pauli) → (anticommutes g P ≡ anticommutes g Q) ↔ (commutes (product P Q) g ≡ true)
commutes-told g P Q =
    let told = sum_told (anticommutes g P) (anticommutes g Q) in
    (λ h. commutes-sum g P Q ∙ told.0 h, λ h. told.1 (sym (commutes-sum g P Q) ∙ h))

pub same-syndrome : (rows : List Pauli) (P Q : Pauli)
    → (syndrome rows P ≡ syndrome rows Q) ↔ (all_of (commutes (product P Q)) rows ≡ true)
unfolding syndrome all_of
same-syndrome [] P Q = (λ _. refl, λ _. refl)
same-syndrome (g ∷ rows) P Q =
    let rest = same-syndrome rows P Q in
    let first = commutes-told g P Q in
    let both = go (commutes (product P Q) g) in (
      λ h. both.1 (first.0 (head-eq_of_cons-eq h), rest.0 (tail-eq_of_cons-eq h)),
      λ h. let (at_g, at_rows) = both.0 h in ap₂ ◌∷◌ (first.1 at_g) (rest.1 at_rows),
    )
  where
    go : (b : Bool) → (◌≡◌ {A = Bool} (elim b [ true ↦ all_of (commutes (product P Q)) rows | false ↦ false ]) true)
        ↔ ((b ≡ true) × (all_of (commutes (product P Q)) rows ≡ true))
    go true = (λ h. (refl, h), λ h. h.1)
    go false = (λ h. absurd (false≢true h), λ h. h.0)
