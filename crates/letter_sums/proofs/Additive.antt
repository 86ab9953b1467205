-- What is additive over the masks of a Pauli is, of a string, the sum of the words of its letters. Letter by letter: a
-- mask is its lowest bit and the bits behind it, which are joined by xor.
use mathlib.Core.List.{List, [], ◌∷◌}
use mathlib.Core.Path.{◌≡◌, ap, ap₂, sym, ◌∙◌}
use Prim.Native.Nat.{ℕ, zero, suc, ◌+◌, ◌*◌, ◌^◌, ◌<◌}
use native.Mathlib.Nat.{zero-mul, mul-one, add_comm, mul_comm, mul_assoc, add-mul, pow-succ', mul-lt-mul_of_pos_right}
use native.Mathlib.Omega.{arith}
use lib.Bits.{bit_xor, xor_shifted, xor_comm}
use lib.ListN.{length}
use lib.Pow.{pow_pos}
use Rattle.letters.specs.declared.Letter.{Letter}
use Rattle.letters.specs.Letters.{x_bit, z_bit}
use Rattle.pauli.specs.Letters.{x_mask, z_mask, mask_of}
use Rattle.pauli.proofs.Letters.{x_bit-lt, z_bit-lt}
use Rattle.letter_sums.specs.Sums.{word_at, sum_of}

-- A letter's bit at a place, and behind it the other bits.
cons-bits : (g x m : ℕ) → x < 2 → (x + 2 * m) * 2 ^ g ≡ bit_xor (x * 2 ^ g) (m * 2 ^ suc g)
cons-bits g x m h =
    let fits : x * 2 ^ g < 2 ^ suc g = rw pow-succ' (mul-lt-mul_of_pos_right h (pow_pos g)) in
    let moved : m * 2 ^ suc g ≡ 2 * m * 2 ^ g =
    ap (λ (p : ℕ). m * p) (pow-succ' 2 g) ∙ sym (mul_assoc m 2 (2 ^ g)) ∙ ap (λ (k : ℕ). k * 2 ^ g) (mul_comm m 2) in
    sym (xor_comm (x * 2 ^ g) (m * 2 ^ suc g) ∙ xor_shifted m (suc g) (x * 2 ^ g) fits
    ∙ ap (λ (k : ℕ). k + x * 2 ^ g) moved ∙ add_comm (2 * m * 2 ^ g) (x * 2 ^ g) ∙ sym (add-mul x (2 * m) (2 ^ g)))

module _
    (f : ℕ → ℕ → ℕ) (f-zero : f 0 0 ≡ 0)
    (f-adds : (a b a' b' : ℕ) → f (bit_xor a a') (bit_xor b b') ≡ bit_xor (f a b) (f a' b')) where
  -- The words are the values at single letters: the qubit with m to its right and g to its left is bit g.
  abbrev pub IsTable : List ℕ → ℕ → Type 0
  IsTable words n = (g m : ℕ) (l : Letter) → g + suc m ≡ n → word_at words m l ≡ f (x_bit l * 2 ^ g) (z_bit l * 2 ^ g)

  -- The last k of n letters.
  sum-of-last : (words : List ℕ) (n : ℕ) → IsTable words n → (k g : ℕ) (s : List Letter) → g + k ≡ n → length s ≡ k
      → sum_of words k s ≡ f (x_mask s * 2 ^ g) (z_mask s * 2 ^ g)
  unfolding sum_of x_mask z_mask mask_of
  sum-of-last words n table zero g [] e h = rw zero-mul (sym f-zero)
  sum-of-last words n table zero g (l ∷ s) e h = absurd (omega arith)
  sum-of-last words n table (suc k) g [] e h = absurd (omega arith)
  sum-of-last words n table (suc k) g (l ∷ s) e h =
      ap₂ bit_xor (table g k l e) (sum-of-last words n table k (suc g) s (omega arith) (omega arith))
      ∙ sym (f-adds (x_bit l * 2 ^ g) (z_bit l * 2 ^ g) (x_mask s * 2 ^ suc g) (z_mask s * 2 ^ suc g))
      ∙ sym (ap₂ f (cons-bits g (x_bit l) (x_mask s) (x_bit-lt l)) (cons-bits g (z_bit l) (z_mask s) (z_bit-lt l)))

  pub sum-of-table : (words : List ℕ) (n : ℕ) → IsTable words n → (s : List Letter) → length s ≡ n
      → sum_of words n s ≡ f (x_mask s) (z_mask s)
  sum-of-table words n table s h =
      sum-of-last words n table n 0 s (omega arith) h ∙ ap₂ f (mul-one (x_mask s)) (mul-one (z_mask s))
