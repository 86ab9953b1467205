-- What the rows leave at once of X or Z at a qubit is its own bit and the sum of the rows that begin in its column.
-- What they leave of Y is the sum of the two.
use mathlib.Core.List.{List, ◌∷◌, ◌++◌}
use mathlib.Core.Path.{◌≡◌, ap, ap₂, sym, ◌∙◌}
use Prim.Native.Nat.{ℕ, zero, suc, ◌+◌, ◌-◌, ◌*◌, ◌/◌, ◌%◌, ◌^◌, ◌<◌}
use native.Mathlib.Decide.{dec_lt}
use native.Mathlib.Nat.{one-mul, div-one}
use native.Mathlib.Numerals.{one-add}
use native.Mathlib.Omega.{arith}
use borrow.Author.Tests.{eq-eqb, ne_eqb}
use lib.Bits.{bit_xor, block_half, block_odd, xor_zero_r}
use lib.Dec.{eqb}
use lib.ListN.{get_or}
use lib.Pow.{pow-add, pow-lt, shl_exact, shl-shr, shr-shr}
use Rattle.letters.specs.declared.Letter.TheVariants.{X, Y, Z}
use Rattle.pauli.specs.declared.Pauli.{Pauli}
use Rattle.pauli.specs.Masks.{bits}
use Rattle.pauli.proofs.Masks.{no-high-bits}
use Rattle.stabilizer.specs.Canonical.{columns, column, pivot, side_by_side}
use Rattle.stabilizer.proofs.All.{all-every}
use Rattle.letter_sums.specs.Sums.{qubit_room}
use Rattle.letter_words.specs.Words.{single_letter}
use Rattle.letter_words.proofs.Singles.{masks-of-x, masks-of-z}
use Rattle.letter_words.proofs.Sums.{y-sum}
use Rattle.logical_words.specs.Words.{mask_word, with_rows, begins_at, rows_at, left_at_once}
use Rattle.logical_words.proofs.AtOnce.{meets, added-to-sum, same_tests, left-additive}

-- ---- columns are the bits of a word

-- The bits of two numbers side by side.
bits-joined : (m k b a : ℕ) → a < 2 ^ k → bits (m + k) (b * 2 ^ k + a) ≡ bits k a ++ bits m b
unfolding bits
bits-joined m zero b a h =
    let none : m + 0 ≡ m = omega arith in
    let own : b * 2 ^ 0 + a ≡ b = omega arith in ap₂ bits none own
bits-joined m (suc k) b a h =
    let one : m + suc k ≡ suc (m + k) = omega arith in
    ap (λ (i : ℕ). bits i (b * 2 ^ suc k + a)) one
    ∙ ap₂ (λ (x y : ℕ). x ∷ bits (m + k) y) (block_odd b k a) (block_half b k a)
    ∙ ap (λ bs. a % 2 ∷ bs) (bits-joined m k b (a / 2) (omega arith))

bit_at : (k m i : ℕ) → m < 2 ^ k → get_or (bits k m) i 0 ≡ m / 2 ^ i % 2
unfolding bits
bit_at zero m i h = sym (ap (λ (x : ℕ). x % 2) (no-high-bits 0 m i h (omega arith)))
bit_at (suc k) m zero h = rw div-one
bit_at (suc k) m (suc i) h =
    bit_at k (m / 2) i (omega arith) ∙ ap (λ (x : ℕ). x % 2) (shr-shr m 1 i) ∙ rw one-add

module _ (P : Pauli) (ha : P.a < 2 ^ 32) (hb : P.b < 2 ^ 32) where
  word_lt : mask_word P < 2 ^ 64
  unfolding mask_word side_by_side
  word_lt = omega arith

  word-bits : columns 32 P ≡ bits 64 (mask_word P)
  unfolding mask_word side_by_side columns
  word-bits =
      let joined : mask_word P ≡ P.b * 2 ^ 32 + P.a = omega arith in
      sym (ap (bits 64) joined ∙ bits-joined 32 32 P.b P.a ha)

  word-column : (c : ℕ) → column 32 P c ≡ mask_word P / 2 ^ c % 2
  unfolding column
  word-column c = ap (λ bs. get_or bs c 0) word-bits ∙ bit_at 64 (mask_word P) c word_lt

-- ---- the letters at a qubit

-- The one bit of a power of 2.
power-bit : (q c : ℕ) → eqb (2 ^ q / 2 ^ c % 2) 1 ≡ eqb c q
power-bit q c = elim (dec_lt q c) [
  | yes l ↦
      ap (λ (x : ℕ). eqb (x % 2) 1) (no-high-bits (suc q) (2 ^ q) c (pow-lt (omega arith)) (omega arith))
      ∙ sym (ne_eqb c q (λ e. omega arith))
  | no l ↦ elim (dec_lt c q) [
    | yes h ↦
        let k = q - c - 1 in
        let e : q ≡ suc k + c = omega arith in
        let even : 2 ^ suc k % 2 ≡ 0 = omega arith in
        ap (λ (i : ℕ). eqb (2 ^ i / 2 ^ c % 2) 1) e
        ∙ ap (λ (x : ℕ). eqb (x / 2 ^ c % 2) 1) (pow-add 2 (suc k) c)
        ∙ ap (λ (x : ℕ). eqb (x % 2) 1) (shl-shr (2 ^ suc k) c)
        ∙ ap (λ (x : ℕ). eqb x 1) even ∙ sym (ne_eqb c q (λ e. omega arith))
    | no h ↦
        let e : q ≡ c = omega arith in
        ap (λ (i : ℕ). eqb (2 ^ i / 2 ^ c % 2) 1) e
        ∙ ap (λ (x : ℕ). eqb (x / 2 ^ c % 2) 1) (sym (one-mul (2 ^ c)))
        ∙ ap (λ (x : ℕ). eqb (x % 2) 1) (shl-shr 1 c) ∙ sym (eq-eqb c q (sym e))
  ]
]

-- Of a Pauli that has a one in one column alone the rows leave this one and the rows that begin there.
single-left : (rows : List Pauli) (P : Pauli) (at : ℕ) → P.a < 2 ^ 32 → P.b < 2 ^ 32 → mask_word P ≡ 2 ^ at
    → bit_xor (2 ^ at) (rows_at rows at) ≡ left_at_once rows P
unfolding left_at_once rows_at
single-left rows P at ha hb one =
    sym (same_tests (meets 32 P) (begins_at at) rows
    (all-every (λ h. meets 32 P h ≡ begins_at at h) (λ h. alone (pivot 32 h)) rows) (mask_word P)
    ∙ ap (with_rows (begins_at at) rows) (one ∙ sym (xor_zero_r (2 ^ at)))
    ∙ added-to-sum (begins_at at) rows (2 ^ at) 0)
  where
    alone : (c : ℕ) → eqb (column 32 P c) 1 ≡ eqb c at
    alone c = ap (λ (b : ℕ). eqb b 1) (word-column P ha hb c ∙ ap (λ (w : ℕ). w / 2 ^ c % 2) one) ∙ power-bit at c

module _ (rows : List Pauli) (qubit : ℕ) (within : qubit < qubit_room) where
  small : 2 ^ qubit < 2 ^ 32
  small = pow-lt within

  -- The single bits are shifted to their columns.
  pub x-left : {sum : ℕ} → sum ≡ rows_at rows qubit
      → bit_xor (1 * 2 ^ qubit % 2 ^ 64) sum ≡ left_at_once rows (single_letter qubit X)
  unfolding mask_word side_by_side
  x-left known =
      let masks = masks-of-x qubit within in
      let shifted = shl_exact 1 qubit 64 (omega arith) (omega arith) ∙ one-mul (2 ^ qubit) in
      ap₂ bit_xor shifted known
      ∙ single-left rows (single_letter qubit X) qubit (omega (arith, masks.of_x, small)) (omega (arith, masks.of_z))
      (omega (arith, masks.of_x, masks.of_z, small))

  pub z-left : {sum : ℕ} → sum ≡ rows_at rows (qubit + 32)
      → bit_xor (4294967296 * 2 ^ qubit % 2 ^ 64) sum ≡ left_at_once rows (single_letter qubit Z)
  unfolding mask_word side_by_side
  z-left known =
      let masks = masks-of-z qubit within in
      let above = pow-add 2 qubit 32 in
      let own : 4294967296 * 2 ^ qubit ≡ 2 ^ (qubit + 32) = omega (arith, above) in
      ap₂ bit_xor (shl_exact 33 qubit 64 (omega arith) (omega arith) ∙ own) known
      ∙ single-left rows (single_letter qubit Z) (qubit + 32) (omega (arith, masks.of_x))
      (omega (arith, masks.of_z, small)) (omega (arith, masks.of_x, masks.of_z, above))

  pub y-left : {x z : ℕ} → x ≡ left_at_once rows (single_letter qubit X) → z ≡ left_at_once rows (single_letter qubit Z)
      → bit_xor x z ≡ left_at_once rows (single_letter qubit Y)
  y-left of_x of_z = ap₂ bit_xor of_x of_z ∙ y-sum (left_at_once rows) (left-additive rows) qubit within
