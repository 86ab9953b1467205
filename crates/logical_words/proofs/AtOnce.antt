-- Rows that are added to a word where a test says so. What rows leave of a Pauli at once is additive for any rows.
-- In reduced echelon form it is what they leave one by one: clearing by a row keeps the columns of the others' first
-- ones, so the tests of the Pauli are those of what is left of it.
use mathlib.Core.Bool.{Bool, true, false, cond}
use mathlib.Core.List.{List, [], ◌∷◌}
use mathlib.Core.Path.{◌≡◌, refl, ap, ap₂, sym, ◌∙◌}
use Prim.Native.Nat.{ℕ, ◌+◌, ◌*◌, ◌/◌, ◌%◌, ◌^◌, ◌≤◌, ◌<◌, min}
use native.Mathlib.Decide.{dec_lt}
use native.Mathlib.Nat.{mod-eq_of_lt, lt_of_lt_of_le, pow-le-pow_right}
use native.Mathlib.Omega.{arith}
use borrow.Author.Tests.{lt-ltb, ltb-true, ltb-false}
use lib.Bits.{bit_xor, xor_zero_l, xor_zero_r, xor_self}
use lib.Count.{count_trailing_zeros}
use lib.Dec.{eqb, ltb}
use Rattle.pauli.specs.declared.Pauli.{Pauli}
use Rattle.pauli.specs.Masks.{bits}
use Rattle.pauli.specs.Product.{identity, product}
use Rattle.pauli.proofs.Masks.{digit, xor_assoc, xor_swap}
use Rattle.pauli.proofs.Product.{pauli}
use Rattle.code_record.specs.Record.{on_qubits}
use Rattle.code_record.proofs.Limits.{on-qubits}
use Rattle.stabilizer.specs.Canonical.{first_one, columns, column, pivot, cleared, reduced, remainder_word}
use Rattle.stabilizer.proofs.All.{All, all-of, all-every, all-places, all-zip}
use Rattle.stabilizer.proofs.Columns.{column-product, column-lt, first_one-found, first_one-missed, pivot-z}
use Rattle.stabilizer.proofs.Echelon.{Spread, reduced-is-echelon, cleared-keeps}
use Rattle.stabilizer.proofs.Remainder.{side-by-side-sums}
use Rattle.stabilizer.proofs.Tests.{by-test}
use Rattle.columns.proofs.FirstOnes.{zeros-below, no-first-one, meets-x, meets-z}
use Rattle.letter_words.proofs.Sums.{Additive}
use Rattle.logical_words.specs.Statements.{LeftAtOnceIsRemainder}
use Rattle.logical_words.specs.Words.{mask_word, with_rows, left_at_once}

-- ---- rows are added to a word

-- A row where a test says so.
abbrev tested : Bool → Pauli → ℕ
tested t h = cond t (mask_word h) 0

-- They are added to a sum as they are to a part of it.
pub added-to-sum : (test : Pauli → Bool) (rows : List Pauli) (u v : ℕ)
    → with_rows test rows (bit_xor u v) ≡ bit_xor u (with_rows test rows v)
unfolding with_rows
added-to-sum test [] u v = refl
added-to-sum test (h ∷ rows) u v =
    let row = tested (test h) h in
    ap (with_rows test rows) (xor_assoc u v row) ∙ added-to-sum test rows u (bit_xor v row)

pub same_tests : (s t : Pauli → Bool) (rows : List Pauli) → All (λ h. s h ≡ t h) rows → (word : ℕ)
    → with_rows s rows word ≡ with_rows t rows word
unfolding with_rows
same_tests s t [] same word = refl
same_tests s t (h ∷ rows) same word =
    ap (λ b. with_rows s rows (bit_xor word (tested b h))) same.0
    ∙ same_tests s t rows same.1 (bit_xor word (tested (t h) h))

-- Where the tests add up, so do the words.
tests-sum : (r s t : Pauli → Bool) → ((h : Pauli) → tested (r h) h ≡ bit_xor (tested (s h) h) (tested (t h) h))
    → (rows : List Pauli) (u v : ℕ)
    → with_rows r rows (bit_xor u v) ≡ bit_xor (with_rows s rows u) (with_rows t rows v)
unfolding with_rows
tests-sum r s t sum [] u v = refl
tests-sum r s t sum (h ∷ rows) u v =
    let x = tested (s h) h in
    let y = tested (t h) h in
    ap (λ (row : ℕ). with_rows r rows (bit_xor (bit_xor u v) row)) (sum h) ∙ ap (with_rows r rows) (xor_swap u v x y)
    ∙ tests-sum r s t sum rows (bit_xor u x) (bit_xor v y)

-- ---- what is left at once is additive

word_sum : (P Q : Pauli) → mask_word (product P Q) ≡ bit_xor (mask_word P) (mask_word Q)
unfolding mask_word product
word_sum P Q = side-by-side-sums P.a P.b Q.a Q.b

-- A row where the sum of two bits is 1.
bits-sum : (m x y : ℕ) → x < 2 → y < 2
    → cond (eqb ((x + y) % 2) 1) m 0 ≡ bit_xor (cond (eqb x 1) m 0) (cond (eqb y 1) m 0)
bits-sum m x y hx hy =
    rw (← mod-eq_of_lt hx, ← mod-eq_of_lt hy)
    (digit (λ (u : ℕ). cond (eqb ((u + y % 2) % 2) 1) m 0 ≡ bit_xor (cond (eqb u 1) m 0) (cond (eqb (y % 2) 1) m 0))
    (digit (λ (v : ℕ). cond (eqb ((0 + v) % 2) 1) m 0 ≡ bit_xor 0 (cond (eqb v 1) m 0)) refl (sym (xor_zero_l m)) y)
    (digit (λ (v : ℕ). cond (eqb ((1 + v) % 2) 1) m 0 ≡ bit_xor m (cond (eqb v 1) m 0)) (sym (xor_zero_r m))
    (sym (xor_self m)) y) x)

-- Whether P has a one in the column of h's first one.
abbrev pub meets : ℕ → Pauli → Pauli → Bool
meets n P h = eqb (column n P (pivot n h)) 1

left-product : (rows : List Pauli) (P Q : Pauli)
    → left_at_once rows (product P Q) ≡ bit_xor (left_at_once rows P) (left_at_once rows Q)
unfolding left_at_once
left-product rows P Q =
    ap (with_rows (meets 32 (product P Q)) rows) (word_sum P Q)
    ∙ tests-sum (meets 32 (product P Q)) (meets 32 P) (meets 32 Q) sum rows (mask_word P) (mask_word Q)
  where
    sum : (h : Pauli) → tested (meets 32 (product P Q) h) h ≡ bit_xor (tested (meets 32 P h) h)
        (tested (meets 32 Q h) h)
    sum h =
        let c = pivot 32 h in
        ap (λ (x : ℕ). tested (eqb x 1) h) (column-product 32 P Q c)
        ∙ bits-sum (mask_word h) (column 32 P c) (column 32 Q c) (column-lt 32 P c) (column-lt 32 Q c)

pub left-additive : (rows : List Pauli) → Additive (left_at_once rows)
unfolding left_at_once mask_word column columns
left-additive rows = record {
  of_masks = λ P Q a b. ap₂ (λ (a b : ℕ). left_at_once rows (pauli 0 a b)) a b;
  of_product = left-product rows;
}

-- ---- one by one

module _ (n : ℕ) where
  cleared-word : (h Q : Pauli) → bit_xor (mask_word Q) (tested (meets n Q h) h) ≡ mask_word (cleared n h Q)
  unfolding cleared
  cleared-word h Q = go (meets n Q h)
    where
      go : (t : Bool) → bit_xor (mask_word Q) (tested t h) ≡ mask_word (cond t (product Q h) Q)
      go true = sym (word_sum Q h)
      go false = xor_zero_r (mask_word Q)

  -- Q is what is left of P, and has its bits in the columns that are still to be cleared.
  one_by_one : (rows : List Pauli) → Spread n rows → (P Q : Pauli)
      → All (λ h. column n Q (pivot n h) ≡ column n P (pivot n h)) rows
      → with_rows (meets n P) rows (mask_word Q) ≡ remainder_word n rows Q
  unfolding with_rows remainder_word reduced mask_word
  one_by_one [] e P Q same = refl
  one_by_one (h ∷ rows) e P Q same =
      ap (λ (b : ℕ). with_rows (meets n P) rows (bit_xor (mask_word Q) (tested (eqb b 1) h))) (sym same.0)
      ∙ ap (with_rows (meets n P) rows) (cleared-word h Q)
      ∙ one_by_one rows e.1 P (cleared n h Q)
      (all-zip (λ g apart s. cleared-keeps n h Q (pivot n g) apart.above ∙ s) rows e.0 same.1)

-- ---- columns of n bits and of 32

module _ (n : ℕ) (few : n ≤ 32) where
  module _ (m : ℕ) (fits : m < 2 ^ n) where
    wider : m < 2 ^ 32
    wider = lt_of_lt_of_le fits (pow-le-pow_right {n = 2} (omega arith) few)

    first_found : ltb (first_one (bits n m)) n ≡ true → first_one (bits 32 m) ≡ first_one (bits n m)
    first_found one =
        let zeros : count_trailing_zeros 32 m ≡ first_one (bits n m) = zeros-below n m wider one in
        let inside : count_trailing_zeros 32 m < 32 = omega (arith, ltb-true (first_one (bits n m)) n one) in
        first_one-found 32 32 m inside inside ∙ zeros

    first-missed : ltb (first_one (bits n m)) n ≡ false → ltb (first_one (bits 32 m)) 32 ≡ false
    first-missed none = ap (λ (c : ℕ). ltb c 32) (first_one-missed 32 n m fits zeros)
      where
        zeros : min 32 n ≤ count_trailing_zeros n m
        zeros = elim (dec_lt (count_trailing_zeros n m) n) [
          | yes l ↦ absurd (omega (arith, first_one-found n n m l l, ltb-false (first_one (bits n m)) n none))
          | no l ↦ omega arith
        ]

  -- A row's first one is the same, read in either.
  same-column : (P h : Pauli) → on_qubits n h ≡ true → pivot n h < 2 * n
      → column 32 P (pivot 32 h) ≡ column n P (pivot n h)
  same-column P h on has =
      by-test (λ t. ltb (first_one (bits n h.a)) n ≡ t → column 32 P (pivot 32 h) ≡ column n P (pivot n h))
      (ltb (first_one (bits n h.a)) n) (λ e x. in-x x) (λ e none. in-z none) refl
    where
      fits : (h.a < 2 ^ n) × (h.b < 2 ^ n)
      fits = on-qubits n h on

      inside : (c : ℕ) → c < n → {d : ℕ} → d ≡ c → ltb d 32 ≡ true
      inside c l {d} e = lt-ltb d 32 (omega (arith, few))

      in-x : ltb (first_one (bits n h.a)) n ≡ true → column 32 P (pivot 32 h) ≡ column n P (pivot n h)
      in-x one =
          let same = first_found h.a fits.0 one in
          sym (meets-x 32 h P (inside _ (ltb-true _ n one) same))
          ∙ ap (λ (c : ℕ). P.a / 2 ^ c % 2) same ∙ meets-x n h P one

      in-z : ltb (first_one (bits n h.a)) n ≡ false → column 32 P (pivot 32 h) ≡ column n P (pivot n h)
      in-z none =
          let one = lt-ltb (first_one (bits n h.b)) n
          (omega (arith, pivot-z n h (no-first-one n h.a none))) in
          let same = first_found h.b fits.1 one in
          sym (meets-z 32 h P (first-missed h.a fits.0 none) (inside _ (ltb-true _ n one) same))
          ∙ ap (λ (c : ℕ). P.b / 2 ^ c % 2) same ∙ meets-z n h P none one

pub left-at-once-is-remainder : LeftAtOnceIsRemainder
unfolding left_at_once
left-at-once-is-remainder n rows few on echelon P =
    same_tests (meets 32 P) (meets n P) rows
    (all-zip (λ h q has. ap (λ (b : ℕ). eqb b 1) (same-column n few P h q has)) rows ((all-of (on_qubits n) rows).0 on)
    (all-places (λ h. pivot n h < 2 * n) identity rows echelon.has_one))
    (mask_word P)
    ∙ one_by_one n rows (reduced-is-echelon n rows echelon).spread P P
    (all-every (λ h. column n P (pivot n h) ≡ column n P (pivot n h)) (λ h. refl) rows)
