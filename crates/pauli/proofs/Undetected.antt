-- A syndrome as a mask: how it grows by a row, how many bits it has, and that it is 0 exactly where the Pauli commutes
-- with every row. Each is an induction over the rows, the first of which has the lowest bit.
use mathlib.Core.Bool.{Bool, true, false, not, cond, true≢false, false≢true}
use mathlib.Core.List.{List, [], ◌∷◌}
use mathlib.Core.Path.{◌≡◌, refl, ap, sym, ◌∙◌}
use Prim.Native.Nat.{ℕ, suc, ◌+◌, ◌*◌, ◌^◌, ◌<◌}
use native.Mathlib.Nat.{mod-lt}
use native.Mathlib.Omega.{arith}
use lib.Dec.{eqb}
use lib.ListN.{length, length-map}
use borrow.Author.Tests.{eq-eqb, ne_eqb, eqb-true, eqb-false}
use Rattle.letters.specs.Lists.{any_of, all_of}
use Rattle.pauli.specs.declared.Pauli.{Pauli}
use Rattle.pauli.specs.Product.{symplectic, commutes, anticommutes}
use Rattle.pauli.specs.Syndrome.{syndrome, mask_of_bits, syndrome_mask}
use Rattle.pauli.proofs.Syndrome.{commutes-comm}

-- ---- how many bits it has

bit-lt : (bit : Bool) (m k : ℕ) → m < 2 ^ k → cond bit 1 0 + 2 * m < 2 ^ suc k
bit-lt true m k h = omega arith
bit-lt false m k h = omega arith

pub mask-of-bits-lt : (bits : List Bool) → mask_of_bits bits < 2 ^ length bits
unfolding mask_of_bits
mask-of-bits-lt [] = omega arith
mask-of-bits-lt (bit ∷ bits) = bit-lt bit (mask_of_bits bits) (length bits) (mask-of-bits-lt bits)

pub syndrome-mask-lt : (rows : List Pauli) (P : Pauli) → syndrome_mask rows P < 2 ^ length rows
unfolding syndrome_mask syndrome
syndrome-mask-lt rows P =
    let shown = mask-of-bits-lt (syndrome rows P) in rw (← length-map rows (λ g. anticommutes g P)) shown

-- ---- one row more

pub symplectic-lt : (P Q : Pauli) → symplectic P Q < 2
unfolding symplectic
symplectic-lt P Q = mod-lt _ (omega arith)

symplectic-bit : (P Q : Pauli) → cond (anticommutes P Q) 1 0 ≡ symplectic P Q
unfolding anticommutes commutes
symplectic-bit P Q = told (symplectic P Q) (symplectic-lt P Q)
  where
    told : (x : ℕ) → x < 2 → cond (not (eqb x 0)) 1 0 ≡ x
    told x h = by (eqb x 0) refl
      where
        by : (t : Bool) → eqb x 0 ≡ t → cond (not t) 1 0 ≡ x
        by true e = sym (eqb-true x 0 e)
        by false e = let some = eqb-false x 0 e in omega (arith, h, some)

-- The bit of the first row, as a machine computes it, and twice those of the others.
pub syndrome-mask-cons : (g : Pauli) (rows : List Pauli) (P : Pauli)
    → syndrome_mask (g ∷ rows) P ≡ symplectic g P + 2 * syndrome_mask rows P
unfolding syndrome_mask syndrome mask_of_bits
syndrome-mask-cons g rows P = ap (λ (x : ℕ). x + 2 * syndrome_mask rows P) (symplectic-bit g P)

-- ---- it is 0 exactly where the Pauli commutes with every row

doubled-zero : (m : ℕ) → eqb (0 + 2 * m) 0 ≡ eqb m 0
doubled-zero m = by (eqb m 0) refl
  where
    by : (t : Bool) → eqb m 0 ≡ t → eqb (0 + 2 * m) 0 ≡ eqb m 0
    by true e = eq-eqb (0 + 2 * m) 0 (omega (arith, eqb-true m 0 e)) ∙ sym e
    by false e = ne_eqb (0 + 2 * m) 0 (λ h. eqb-false m 0 e (omega (arith, h))) ∙ sym e

pub mask-undetected : (rows : List Pauli) (P : Pauli) → eqb (syndrome_mask rows P) 0 ≡ all_of (commutes P) rows
unfolding syndrome_mask syndrome mask_of_bits all_of anticommutes
mask-undetected [] P = refl
mask-undetected (g ∷ rows) P = first (commutes g P) (commutes P g) (commutes-comm g P) (mask-undetected rows P)
  where
    first : (s t : Bool) → s ≡ t → eqb (syndrome_mask rows P) 0 ≡ all_of (commutes P) rows
        → eqb (cond (not s) 1 0 + 2 * syndrome_mask rows P) 0
        ≡ elim t [ true ↦ all_of (commutes P) rows | false ↦ false ]
    first true true same rest = doubled-zero (syndrome_mask rows P) ∙ rest
    first true false same rest = absurd (true≢false same)
    first false true same rest = absurd (false≢true same)
    first false false same rest = ne_eqb (1 + 2 * syndrome_mask rows P) 0 (λ h. omega (arith, h))

not-all : {A : Type 0} (test : A → Bool) (xs : List A) → not (all_of test xs) ≡ any_of (λ x. not (test x)) xs
unfolding all_of any_of
not-all test [] = refl
not-all test (x ∷ xs) = go (test x) (not-all test xs)
  where
    go : (t : Bool) → not (all_of test xs) ≡ any_of (λ x. not (test x)) xs
        → not (elim t [ true ↦ all_of test xs | false ↦ false ])
        ≡ elim (not t) [ true ↦ true | false ↦ any_of (λ x. not (test x)) xs ]
    go true rest = rest
    go false rest = refl

pub mask-detected : (rows : List Pauli) (P : Pauli)
    → not (eqb (syndrome_mask rows P) 0) ≡ any_of (anticommutes P) rows
unfolding anticommutes
mask-detected rows P = ap not (mask-undetected rows P) ∙ not-all (commutes P) rows
