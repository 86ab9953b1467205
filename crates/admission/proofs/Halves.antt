-- Letters dealt out to two strings, with I in the other: the weights add up, and the product has the masks of the whole
-- string. Both go letter by letter along the dealing, and to halve a string is one dealing.
use mathlib.Core.List.{List, [], ◌∷◌}
use mathlib.Core.Path.{◌≡◌, refl, ap₂, ◌∙◌}
use Prim.Native.Nat.{ℕ, zero, suc, ◌+◌, ◌-◌, ◌*◌, ◌/◌, ◌%◌, ◌<◌}
use native.Mathlib.Omega.{arith}
use lib.Bits.{bit_xor, xor_comm, xor_zero_r}
use lib.ListN.{length}
use Rattle.letters.specs.declared.Letter.{Letter}
use Rattle.letters.specs.declared.Letter.TheVariants.{I}
use Rattle.pauli.specs.Letters.{mask_of, x_mask, z_mask, row_of, signed_row, of_letters}
use Rattle.letters.specs.Letters.{x_bit, z_bit}
use Rattle.pauli.specs.Order.{letter_weight, weight_of}
use Rattle.pauli.specs.Product.{product}
use Rattle.pauli.proofs.Letters.{x_bit-lt, z_bit-lt}
use Rattle.pauli.proofs.Masks.{by-halves, xor-half, xor_low}
use Rattle.pauli.proofs.Product.{pauli}
use Rattle.stabilizer.proofs.Generated.{masks_of}
use Rattle.admission.specs.Distance.{first_letters, other_letters}

-- Each letter of the first string stands in one of the two others.
pub data Dealt : List Letter → List Letter → List Letter → Type 0 where
  ended : Dealt [] [] []
  left : {l : Letter} {s e f : List Letter} → Dealt s e f → Dealt (l ∷ s) (l ∷ e) (I ∷ f)
  right : {l : Letter} {s e f : List Letter} → Dealt s e f → Dealt (l ∷ s) (I ∷ e) (l ∷ f)

all_others : (s : List Letter) → Dealt s (first_letters zero s) s
unfolding first_letters
all_others [] = ended
all_others (l ∷ s) = right (all_others s)

pub dealt-halves : (m : ℕ) (s : List Letter) → Dealt s (first_letters m s) (other_letters m s)
unfolding first_letters other_letters
dealt-halves m [] = ended
dealt-halves zero (l ∷ s) = right (all_others s)
dealt-halves (suc m) (l ∷ s) = left (dealt-halves (suc m - letter_weight l) s)

pub dealt-lengths : {s e f : List Letter} → Dealt s e f → (length e ≡ length s) × (length f ≡ length s)
dealt-lengths ended = (refl, refl)
dealt-lengths (left d) = omega (arith, dealt-lengths d)
dealt-lengths (right d) = omega (arith, dealt-lengths d)

pub dealt-weights : {s e f : List Letter} → Dealt s e f → weight_of e + weight_of f ≡ weight_of s
unfolding weight_of letter_weight
dealt-weights ended = refl
dealt-weights (left d) = omega (arith, dealt-weights d)
dealt-weights (right d) = omega (arith, dealt-weights d)

-- ---- the masks

-- A bit in front of one of two masks.
xor-left : (x m k : ℕ) → x < 2 → bit_xor (x + 2 * m) (0 + 2 * k) ≡ x + 2 * bit_xor m k
xor-left x m k h =
    by-halves (bit_xor (x + 2 * m) (0 + 2 * k)) (x + 2 * bit_xor m k)
    (xor-half (x + 2 * m) (0 + 2 * k) ∙ rw (half x m h, half 0 k (omega arith), half x (bit_xor m k) h))
    (xor_low (x + 2 * m) (0 + 2 * k) ∙ rw (low x m h, low 0 k (omega arith), low x (bit_xor m k) h) (xor_zero_r x))
  where
    half : (y n : ℕ) → y < 2 → (y + 2 * n) / 2 ≡ n
    half y n l = omega arith

    low : (y n : ℕ) → y < 2 → (y + 2 * n) % 2 ≡ y
    low y n l = omega arith

xor-right : (x m k : ℕ) → x < 2 → bit_xor (0 + 2 * m) (x + 2 * k) ≡ x + 2 * bit_xor m k
xor-right x m k h =
    xor_comm (0 + 2 * m) (x + 2 * k) ∙ xor-left x k m h ∙ ap₂ (λ u v. u + 2 * v) refl (xor_comm k m)

module _ (bit : Letter → ℕ) (small : (l : Letter) → bit l < 2) (none : bit I ≡ 0) where
  pub dealt-masks : {s e f : List Letter} → Dealt s e f → bit_xor (mask_of bit e) (mask_of bit f) ≡ mask_of bit s
  unfolding mask_of
  dealt-masks ended = refl
  dealt-masks (left {l} d) = rw (none, xor-left, small l, dealt-masks d)
  dealt-masks (right {l} d) = rw (none, xor-right, small l, dealt-masks d)

pub dealt-product : {s e f : List Letter} → Dealt s e f
    → masks_of (product (of_letters e) (of_letters f)) ≡ masks_of (of_letters s)
unfolding masks_of product of_letters signed_row row_of x_mask z_mask
dealt-product d = ap₂ (pauli 0) (dealt-masks x_bit x_bit-lt refl d) (dealt-masks z_bit z_bit-lt refl d)
