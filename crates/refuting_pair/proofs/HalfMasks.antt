-- The two errors of refusal 14 by masks: F has the error's masks where its support has ones left once the lowest are
-- taken away, and E the rest. Each law goes letter by letter, since a string's mask is its first letter's bit and twice
-- the mask of the others.
use mathlib.Core.List.{List, [], ◌∷◌}
use mathlib.Core.Path.{◌≡◌, refl, ap, ap₂, sym, ◌∙◌}
use Prim.Native.Nat.{ℕ, zero, suc, ◌+◌, ◌-◌, ◌*◌, ◌/◌, ◌^◌, ◌<◌, ◌≤◌, min, max}
use native.Mathlib.Nat.{pow-le-pow_right}
use native.Mathlib.Omega.{arith}
use lib.Bits.{bit_and, bit_or, bit_xor, and_step, and_self, or_step, xor_self, xor_zero_r}
use lib.Dec.{lit≤, lit<}
use lib.ListN.{length}
use Rattle.letters.specs.declared.Letter.{Letter}
use Rattle.letters.specs.declared.Letter.TheVariants.{I, X, Y, Z}
use Rattle.letters.specs.declared.Sign.TheVariants.{Plus}
use Rattle.letters.specs.Letters.{x_bit, z_bit}
use Rattle.pauli.specs.Letters.{letters_at, letters_of, mask_of, x_mask, z_mask, row_of, signed_row, of_letters}
use Rattle.pauli.specs.Masks.{count_ones}
use Rattle.pauli.specs.Order.{letter_weight, weight_of}
use Rattle.pauli.specs.Product.{weight}
use Rattle.pauli.proofs.Letters.{x_bit-lt, z_bit-lt, x_mask-lt, z_mask-lt, masks-return, weight-counts-letters}
use Rattle.pauli.proofs.Masks.{xor_assoc}
use Rattle.pauli.proofs.Product.{pauli}
use Rattle.refusals.specs.declared.ErrorPair.{ErrorPair}
use Rattle.admission.specs.Distance.{first_letters, other_letters, refuting_pair}
use Rattle.admission.proofs.Halves.{dealt-halves, dealt-masks}
use Rattle.refuting_pair.specs.LowestOnes.{without_one, without_lowest}

-- ---- the lowest ones

one-of-odd : (m : ℕ) → without_one (1 + 2 * m) ≡ 2 * m
unfolding without_one
one-of-odd m =
    let h : (1 + 2 * m) / 2 ≡ m = omega arith in
    let k : (1 + 2 * m - 1) / 2 ≡ m = omega arith in
    omega (arith, and_step (1 + 2 * m) (1 + 2 * m - 1), ap₂ bit_and h k ∙ and_self m)

one-of-even : (m : ℕ) → without_one (2 * m) ≡ 2 * without_one m
unfolding without_one
one-of-even m =
    let h : 2 * m / 2 ≡ m = omega arith in
    let k : (2 * m - 1) / 2 ≡ m - 1 = omega arith in
    omega (arith, and_step (2 * m) (2 * m - 1), ap₂ bit_and h k)

lowest-of-even : (k m : ℕ) → without_lowest k (2 * m) ≡ 2 * without_lowest k m
unfolding without_lowest
lowest-of-even zero m = refl
lowest-of-even (suc k) m = ap (without_lowest k) (one-of-even m) ∙ lowest-of-even k (without_one m)

lowest-of-odd : (k m : ℕ) → without_lowest (suc k) (1 + 2 * m) ≡ 2 * without_lowest k m
unfolding without_lowest
lowest-of-odd k m = ap (without_lowest k) (one-of-odd m) ∙ lowest-of-even k m

pub lowest-of-none : (k : ℕ) → without_lowest k 0 ≡ 0
unfolding without_lowest without_one
lowest-of-none zero = refl
lowest-of-none (suc k) = lowest-of-none k

-- A mask with its lowest bit: one fewer is taken from the others where that bit is a one.
lowest-joined : (k x m : ℕ) → x < 2 → without_lowest (suc k) (x + 2 * m) ≡ 2 * without_lowest (suc k - x) m
lowest-joined k zero m h =
    let even : 0 + 2 * m ≡ 2 * m = omega arith in
    let all : suc k ≡ suc k - 0 = omega arith in
    ap (without_lowest (suc k)) even ∙ lowest-of-even (suc k) m ∙ ap (λ (i : ℕ). 2 * without_lowest i m) all
lowest-joined k (suc zero) m h =
    let fewer : k ≡ suc k - 1 = omega arith in
    lowest-of-odd k m ∙ ap (λ (i : ℕ). 2 * without_lowest i m) fewer
lowest-joined k (suc (suc x)) m h = absurd (omega arith)

-- ---- masks with their lowest bits

module _ (x y m k : ℕ) (hx : x < 2) (hy : y < 2) where
  first-half : (x + 2 * m) / 2 ≡ m
  first-half = omega arith

  second-half : (y + 2 * k) / 2 ≡ k
  second-half = omega arith

  and-joined : bit_and (x + 2 * m) (y + 2 * k) ≡ min x y + 2 * bit_and m k
  and-joined = omega (arith, and_step (x + 2 * m) (y + 2 * k), ap₂ bit_and first-half second-half)

  or-joined : bit_or (x + 2 * m) (y + 2 * k) ≡ max x y + 2 * bit_or m k
  or-joined = omega (arith, or_step (x + 2 * m) (y + 2 * k), ap₂ bit_or first-half second-half)

and-even : (x m k : ℕ) → x < 2 → bit_and (x + 2 * m) (2 * k) ≡ 2 * bit_and m k
and-even x m k h =
    let even : 2 * k ≡ 0 + 2 * k = omega arith in
    omega (arith, ap (bit_and (x + 2 * m)) even, and-joined x 0 m k h (omega arith))

-- ---- letter by letter

letter-lt : (l : Letter) → letter_weight l < 2
unfolding letter_weight
letter-lt I = lit< tt
letter-lt X = lit< tt
letter-lt Y = lit< tt
letter-lt Z = lit< tt

letter-bits : (l : Letter) → max (x_bit l) (z_bit l) ≡ letter_weight l
unfolding letter_weight
letter-bits I = refl
letter-bits X = refl
letter-bits Y = refl
letter-bits Z = refl

-- The support: where the masks together have a one, the letter is other than I.
support : (s : List Letter) → bit_or (x_mask s) (z_mask s) ≡ mask_of letter_weight s
unfolding x_mask z_mask mask_of
support [] = refl
support (l ∷ s) =
    or-joined (x_bit l) (z_bit l) (x_mask s) (z_mask s) (x_bit-lt l) (z_bit-lt l)
    ∙ ap₂ (λ (x m : ℕ). x + 2 * m) (letter-bits l) (support s)

module _ (bit : Letter → ℕ) (small : (l : Letter) → bit l ≤ letter_weight l) where
  bit-lt : (l : Letter) → bit l < 2
  bit-lt l = omega (arith, small l, letter-lt l)

  no-bit : bit I ≡ 0
  unfolding letter_weight
  no-bit = omega (arith, small I)

  in-support : (s : List Letter) → bit_and (mask_of bit s) (mask_of letter_weight s) ≡ mask_of bit s
  unfolding mask_of
  in-support [] = refl
  in-support (l ∷ s) =
      let least : min (bit l) (letter_weight l) ≡ bit l = omega (arith, small l) in
      and-joined (bit l) (letter_weight l) (mask_of bit s) (mask_of letter_weight s) (bit-lt l) (letter-lt l)
      ∙ ap₂ (λ (x m : ℕ). x + 2 * m) least (in-support s)

  other-mask : (m : ℕ) (s : List Letter)
      → mask_of bit (other_letters m s) ≡ bit_and (mask_of bit s) (without_lowest m (mask_of letter_weight s))
  unfolding mask_of other_letters without_lowest
  other-mask m [] = refl
  other-mask zero (l ∷ s) = sym (in-support (l ∷ s))
  other-mask (suc m) (l ∷ s) =
      let mask = mask_of bit s in
      let kept = without_lowest (suc m - letter_weight l) (mask_of letter_weight s) in
      let lowest = lowest-joined m (letter_weight l) (mask_of letter_weight s) (letter-lt l) in
      let joined = ap (bit_and (bit l + 2 * mask)) lowest ∙ and-even (bit l) mask kept (bit-lt l) in
      omega (arith, no-bit, joined, other-mask (suc m - letter_weight l) s)

  first-mask : (m : ℕ) (s : List Letter)
      → mask_of bit (first_letters m s) ≡ bit_xor (mask_of bit s) (mask_of bit (other_letters m s))
  first-mask m s =
      let first = mask_of bit (first_letters m s) in
      let other = mask_of bit (other_letters m s) in
      sym (ap (λ (whole : ℕ). bit_xor whole other) (sym (dealt-masks bit bit-lt no-bit (dealt-halves m s)))
      ∙ xor_assoc first other other ∙ ap (bit_xor first) (xor_self other) ∙ xor_zero_r first)

-- ---- the pair

x-small : (l : Letter) → x_bit l ≤ letter_weight l
unfolding letter_weight
x-small I = lit≤ tt
x-small X = lit≤ tt
x-small Y = lit≤ tt
x-small Z = lit≤ tt

z-small : (l : Letter) → z_bit l ≤ letter_weight l
unfolding letter_weight
z-small I = lit≤ tt
z-small X = lit≤ tt
z-small Y = lit≤ tt
z-small Z = lit≤ tt

-- The pair by the masks of the error and the part of them that F keeps.
abbrev pub pair_with : ℕ → ℕ → ℕ → ℕ → ErrorPair
pair_with n a b kept = record {
  n = n;
  e = row_of Plus (bit_xor a (bit_and a kept)) (bit_xor b (bit_and b kept));
  f = row_of Plus (bit_and a kept) (bit_and b kept);
}

abbrev pub kept_of : ℕ → ℕ → ℕ
kept_of a b = without_lowest ((count_ones (bit_or a b) + 1) / 2) (bit_or a b)

kept-letters : (s : List Letter)
    → without_lowest ((weight_of s + 1) / 2) (mask_of letter_weight s) ≡ kept_of (x_mask s) (z_mask s)
unfolding weight of_letters signed_row row_of
kept-letters s =
    ap₂ (λ (count mask : ℕ). without_lowest ((count + 1) / 2) mask) (sym (weight-counts-letters s)) (sym (support s))

pair-by-masks : (n : ℕ) (s : List Letter)
    → refuting_pair n s ≡ pair_with n (x_mask s) (z_mask s) (kept_of (x_mask s) (z_mask s))
unfolding refuting_pair of_letters signed_row x_mask z_mask
pair-by-masks n s =
    let half = (weight_of s + 1) / 2 in
    let f = of_letters (other_letters half s) in
    ap₂ (λ (x z : ℕ). record { n = n; e = row_of Plus x z; f = f }) (first-mask x_bit x-small half s)
    (first-mask z_bit z-small half s)
    ∙ ap₂ (λ (x z : ℕ).
    record { n = n; e = row_of Plus (bit_xor (x_mask s) x) (bit_xor (z_mask s) z); f = row_of Plus x z })
    (other-mask x_bit x-small half s) (other-mask z_bit z-small half s)
    ∙ ap (pair_with n (x_mask s) (z_mask s)) (kept-letters s)

pub pair-of-letters : (n a b : ℕ) → a < 2 ^ 32 → b < 2 ^ 32
    → pair_with n a b (kept_of a b) ≡ refuting_pair n (letters_at 32 a b)
unfolding letters_of
pair-of-letters n a b ha hb =
    let masks = masks-return 32 (pauli 0 a b) ha hb in
    sym (pair-by-masks n (letters_at 32 a b) ∙ ap₂ (λ (a b : ℕ). pair_with n a b (kept_of a b)) masks.0 masks.1)

-- The pair of a string of letters from its masks: letters I behind its end change nothing.
pub pair-of-string : (n a b : ℕ) (s : List Letter) → length s ≤ 32 → x_mask s ≡ a → z_mask s ≡ b
    → refuting_pair n (letters_at 32 a b) ≡ refuting_pair n s
pair-of-string n a b s short x z =
    let room = pow-le-pow_right {n = 2} (omega arith) short in
    sym (pair-of-letters n a b (omega (arith, x, x_mask-lt s, room)) (omega (arith, z, z_mask-lt s, room)))
    ∙ sym (pair-by-masks n s ∙ ap₂ (λ (a b : ℕ). pair_with n a b (kept_of a b)) x z)
