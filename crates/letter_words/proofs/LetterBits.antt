-- X at a qubit anticommutes with a row that has the qubit's bit in its Z mask, Z with one that has it in its X mask,
-- and Y with one that has it in one of the two.
use mathlib.Core.Path.{◌≡◌, refl, ap, ap₂, sym, ◌∙◌}
use Prim.Native.Nat.{ℕ, zero, suc, ◌+◌, ◌/◌, ◌%◌, ◌^◌, ◌<◌}
use native.Mathlib.Nat.{zero-add}
use native.Mathlib.Omega.{arith}
use lib.Bits.{bit_and, bit_xor, and_mask, and_zero_r, xor_shr}
use lib.Pow.{shr-shr}
use Rattle.letters.specs.declared.Letter.TheVariants.{X, Y, Z}
use Rattle.pauli.specs.declared.Pauli.{Pauli}
use Rattle.pauli.specs.Masks.{ones_among, count_ones, dot}
use Rattle.pauli.specs.Product.{symplectic}
use Rattle.pauli.proofs.Masks.{digit, xor_low, and-half, and_low, count_ones-zero, joined_step, dot-comm}
use Rattle.letter_sums.specs.Sums.{qubit_room}
use Rattle.letter_words.specs.Words.{single_letter}
use Rattle.letter_words.proofs.Singles.{HasMasks, masks-of-x, masks-of-y, masks-of-z}

-- ---- a mask and a single bit

count-digit : (m : ℕ) → count_ones (m % 2) ≡ m % 2
unfolding count_ones ones_among
count-digit = digit (λ x. count_ones x ≡ x) refl refl

-- The ones that a mask shares with a single bit: the mask's own bit there.
dot-bit : (place m : ℕ) → dot m (2 ^ place) ≡ m / 2 ^ place % 2
unfolding dot
dot-bit zero m = ap count_ones (and_mask m 1) ∙ count-digit m ∙ ap (λ (x : ℕ). x % 2) (omega arith)
dot-bit (suc place) m =
    let bit = 2 ^ suc place in
    let even : bit % 2 ≡ 0 = omega arith in
    let half : bit / 2 ≡ 2 ^ place = omega arith in
    joined_step bit_and and-half and_low m bit
    ∙ ap₂ (λ (x y : ℕ). bit_and (m % 2) x + count_ones (bit_and (m / 2) y)) even half
    ∙ ap₂ (λ (x y : ℕ). x + y) (and_zero_r (m % 2)) (dot-bit place (m / 2))
    ∙ zero-add (m / 2 / 2 ^ place % 2)
    ∙ ap (λ (x : ℕ). x % 2) (shr-shr m 1 place ∙ ap (λ (k : ℕ). m / 2 ^ k) (omega arith))

dot-none : (m : ℕ) → dot m 0 ≡ 0
unfolding dot
dot-none m = ap count_ones (and_zero_r m) ∙ count_ones-zero

-- The parity of two bits is their sum, bit by bit.
xor-bit : (place m k : ℕ) → (m / 2 ^ place % 2 + k / 2 ^ place % 2) % 2 ≡ bit_xor m k / 2 ^ place % 2
xor-bit place m k =
    digit (λ (x : ℕ). (x + k / 2 ^ place % 2) % 2 ≡ bit_xor x (k / 2 ^ place % 2))
    (digit (λ (y : ℕ). (0 + y) % 2 ≡ bit_xor 0 y) refl refl (k / 2 ^ place))
    (digit (λ (y : ℕ). (1 + y) % 2 ≡ bit_xor 1 y) refl refl (k / 2 ^ place)) (m / 2 ^ place)
    ∙ sym (ap (λ (x : ℕ). x % 2) (xor_shr m k place) ∙ xor_low (m / 2 ^ place) (k / 2 ^ place))

-- ---- the symplectic products with X, Y and Z

module _ (place : ℕ) (within : place < qubit_room) (g : Pauli) where
  with-masks : (P : Pauli) (a b : ℕ) → HasMasks P a b → symplectic g P ≡ (dot g.a b + dot a g.b) % 2
  unfolding symplectic
  with-masks P a b masks = ap₂ (λ (a b : ℕ). (dot g.a b + dot a g.b) % 2) masks.of_x masks.of_z

  pub x-bit : symplectic g (single_letter place X) ≡ g.b / 2 ^ place % 2
  x-bit =
      with-masks (single_letter place X) (2 ^ place) 0 (masks-of-x place within)
      ∙ ap₂ (λ (x y : ℕ). (x + y) % 2) (dot-none g.a) (dot-comm (2 ^ place) g.b ∙ dot-bit place g.b)
      ∙ omega arith

  pub y-bit : symplectic g (single_letter place Y) ≡ bit_xor g.a g.b / 2 ^ place % 2
  y-bit =
      with-masks (single_letter place Y) (2 ^ place) (2 ^ place) (masks-of-y place within)
      ∙ ap₂ (λ (x y : ℕ). (x + y) % 2) (dot-bit place g.a) (dot-comm (2 ^ place) g.b ∙ dot-bit place g.b)
      ∙ xor-bit place g.a g.b

  pub z-bit : symplectic g (single_letter place Z) ≡ g.a / 2 ^ place % 2
  z-bit =
      with-masks (single_letter place Z) 0 (2 ^ place) (masks-of-z place within)
      ∙ ap₂ (λ (x y : ℕ). (x + y) % 2) (dot-bit place g.a) (dot-comm 0 g.b ∙ dot-none g.b) ∙ omega arith
