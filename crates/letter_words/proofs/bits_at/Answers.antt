-- A mask of 32 bits is the low half of the joined masks, and the shift leaves its bit at the place 0 and that of the
-- other mask at the place 32.
use mathlib.Core.Path.{◌≡◌, ap, ap₂, sym, ◌∙◌}
use Prim.Native.Nat.{ℕ, ◌+◌, ◌-◌, ◌*◌, ◌/◌, ◌%◌, ◌^◌, ◌<◌}
use native.Mathlib.Nat.{mod-lt}
use native.Mathlib.Omega.{arith}
use lib.Bits.{bit_and, and_mask, and_block}
use lib.Pow.{shr-shr, split, field, mod-mod-pow}
use borrow.Author.Rules.{rules}
use Rattle.letter_words.proofs.bits_at.Goals as goal

-- The places 0 and 32 of a number.
two-places : (m : ℕ) → bit_and m 4294967297 ≡ m % 2 + 2 ^ 32 * (m / 2 ^ 32 % 2)
two-places m =
    let high = m / 2 ^ 32 in
    let low = m % 2 ^ 32 in
    ap (λ (x : ℕ). bit_and x 4294967297) (sym (split m 32))
    ∙ and_block 32 high 1 low 1 (mod-lt m (omega arith)) (omega arith)
    ∙ ap₂ (λ (x y : ℕ). x * 2 ^ 32 + y) (and_mask high 1) (and_mask low 1) ∙ omega arith

module _ (a b qubit : ℕ) (fits : a < 2 ^ 32) (within : qubit < 32) where
  masks : ℕ
  masks = a + 4294967296 * b

  low_bit : masks / 2 ^ qubit % 2 ≡ a / 2 ^ qubit % 2
  unfolding masks
  low_bit =
      let rest = 31 - qubit in
      let width : rest + 1 + qubit ≡ 32 = omega arith in
      let own : masks % 2 ^ 32 ≡ a = omega arith in
      sym (mod-mod-pow (masks / 2 ^ qubit) rest 1)
      ∙ ap (λ (x : ℕ). x % 2) (sym (field masks (rest + 1) qubit))
      ∙ ap (λ (k : ℕ). masks % 2 ^ k / 2 ^ qubit % 2) width ∙ ap (λ (x : ℕ). x / 2 ^ qubit % 2) own

  high_bit : masks / 2 ^ qubit / 2 ^ 32 % 2 ≡ b / 2 ^ qubit % 2
  unfolding masks
  high_bit =
      let own : masks / 2 ^ 32 ≡ b = omega arith in
      ap (λ (x : ℕ). x % 2) (shr-shr masks qubit 32
      ∙ ap (λ (k : ℕ). masks / 2 ^ k) (omega arith) ∙ sym (shr-shr masks 32 qubit))
      ∙ ap (λ (x : ℕ). x / 2 ^ qubit % 2) own

  both_bits : bit_and ((a + 4294967296 * b) / 2 ^ qubit) 4294967297
      ≡ a / 2 ^ qubit % 2 + 2 ^ 32 * (b / 2 ^ qubit % 2)
  unfolding masks
  both_bits = two-places (masks / 2 ^ qubit) ∙ ap₂ (λ (x y : ℕ). x + 2 ^ 32 * y) low_bit high_bit

pub returns : goal.returns
returns c =
    let args = c.args in
    both_bits args.row.a args.row.b args.qubit (search rules) (search rules)
