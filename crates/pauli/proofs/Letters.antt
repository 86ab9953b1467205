-- Letters and masks say the same of a Pauli. A string of letters gives each mask a bit at a time, lowest bit first, and
-- is read back from the masks in the same order: so each law on strings is an induction in which a mask is its lowest
-- bit and its half. A law on a Pauli's masks is then that of the string read from them.
use mathlib.Core.Path.{◌≡◌, refl, ap, sym, ◌∙◌}
use mathlib.Core.List.{List, [], ◌∷◌}
use Prim.Native.Nat.{ℕ, zero, suc, ◌+◌, ◌*◌, ◌/◌, ◌%◌, ◌^◌, ◌<◌}
use native.Mathlib.Nat.{div-one, not-suc-le-zero}
use native.Mathlib.Omega.{arith}
use lib.Bits.{bit_and, bit_or}
use lib.Dec.{lit<}
use lib.ListN.{length, get_or}
use lib.Pow.{shr-shr}
use Rattle.pauli.specs.declared.Pauli.{Pauli}
use Rattle.letters.specs.declared.Letter.{Letter}
use Rattle.letters.specs.declared.Letter.TheVariants.{I, X, Y, Z}
use Rattle.pauli.specs.Letters.{letters_at, letters_of, letter_on, mask_of, x_mask, z_mask}
use Rattle.letters.specs.Letters.{letter_at, x_bit, z_bit}
use Rattle.pauli.specs.Letters.{count_y, row_of, signed_row, of_letters}
use Rattle.pauli.specs.Masks.{count_ones, dot}
use Rattle.pauli.specs.Order.{letter_weight, weight_of}
use Rattle.pauli.specs.Product.{weight}
use Rattle.pauli.specs.Statements.{LettersReturn, MasksReturn, WeightCountsLetters}
use Rattle.pauli.proofs.Masks.{and-half, and_low, or-half, or-low, count_ones-zero, joined_step}

-- ---- masks, by halving

-- The mask with lowest bit x and half m.
module _ (x m : ℕ) (h : x < 2) where
  low_bit : (x + 2 * m) % 2 ≡ x
  low_bit = omega arith

  half : (x + 2 * m) / 2 ≡ m
  half = omega arith

  cons-lt : (n : ℕ) → m < 2 ^ n → x + 2 * m < 2 ^ suc n
  cons-lt n l = omega arith

half_lt : (n m : ℕ) → m < 2 ^ suc n → m / 2 < 2 ^ n
half_lt n m h = omega arith

shr-suc : (m j : ℕ) → m / 2 ^ suc j ≡ m / 2 / 2 ^ j
shr-suc m j = ap (λ (k : ℕ). m / 2 ^ k) (omega arith) ∙ sym (shr-shr m 1 j)

-- ---- a letter and its two bits

pub x_bit-lt : (l : Letter) → x_bit l < 2
x_bit-lt I = lit< tt
x_bit-lt X = lit< tt
x_bit-lt Y = lit< tt
x_bit-lt Z = lit< tt

pub z_bit-lt : (l : Letter) → z_bit l < 2
z_bit-lt I = lit< tt
z_bit-lt X = lit< tt
z_bit-lt Y = lit< tt
z_bit-lt Z = lit< tt

letter-returns : (l : Letter) → letter_at (x_bit l) (z_bit l) ≡ l
unfolding letter_at
letter-returns I = refl
letter-returns X = refl
letter-returns Y = refl
letter-returns Z = refl

bits-return : (x y : ℕ) → x < 2 → y < 2 → (x_bit (letter_at x y) ≡ x) × (z_bit (letter_at x y) ≡ y)
unfolding letter_at
bits-return zero zero hx hy = omega arith
bits-return (suc x) zero hx hy = omega arith
bits-return zero (suc y) hx hy = omega arith
bits-return (suc x) (suc y) hx hy = omega arith

-- ---- a string and its two masks

-- The masks of n letters are below 2^n.
pub mask_lt : (bit : Letter → ℕ) → ((l : Letter) → bit l < 2) → (s : List Letter) → mask_of bit s < 2 ^ length s
unfolding mask_of
mask_lt bit h [] = lit< tt
mask_lt bit h (l ∷ s) = cons-lt (bit l) (mask_of bit s) (h l) (length s) (mask_lt bit h s)

pub x_mask-lt : (s : List Letter) → x_mask s < 2 ^ length s
unfolding x_mask
x_mask-lt = mask_lt x_bit x_bit-lt

pub z_mask-lt : (s : List Letter) → z_mask s < 2 ^ length s
unfolding z_mask
z_mask-lt = mask_lt z_bit z_bit-lt

string-returns : (s : List Letter) → letters_at (length s) (x_mask s) (z_mask s) ≡ s
unfolding letters_at x_mask z_mask mask_of
string-returns [] = refl
string-returns (l ∷ s) = simp (low_bit, half, x_bit-lt, z_bit-lt, letter-returns, string-returns s)

pub letters-return : LettersReturn
unfolding signed_row row_of letters_of
letters-return sign s = string-returns s

masks-of-letters : (n a b : ℕ) → a < 2 ^ n → b < 2 ^ n → (x_mask (letters_at n a b) ≡ a)
    × (z_mask (letters_at n a b) ≡ b)
unfolding letters_at x_mask z_mask mask_of
masks-of-letters zero a b ha hb = omega arith
masks-of-letters (suc n) a b ha hb =
    omega (
      arith,
      bits-return (a % 2) (b % 2) (omega arith) (omega arith),
      masks-of-letters n (a / 2) (b / 2) (half_lt n a ha) (half_lt n b hb),
    )

pub masks-return : MasksReturn
unfolding letters_of
masks-return n P = masks-of-letters n P.a P.b

-- ---- the letter at a place

length-letters_at : (n a b : ℕ) → length (letters_at n a b) ≡ n
unfolding letters_at
length-letters_at zero a b = refl
length-letters_at (suc n) a b = ap suc (length-letters_at n (a / 2) (b / 2))

pub length-letters_of : (n : ℕ) (P : Pauli) → length (letters_of n P) ≡ n
unfolding letters_of
length-letters_of n P = length-letters_at n P.a P.b

letters_at-at : (n j a b : ℕ) → j < n → get_or (letters_at n a b) j I ≡ letter_at (a / 2 ^ j % 2) (b / 2 ^ j % 2)
unfolding letters_at
letters_at-at zero j a b h = absurd (not-suc-le-zero h)
letters_at-at (suc n) zero a b h = simp div-one
letters_at-at (suc n) (suc j) a b h = simp (shr-suc, letters_at-at n j (a / 2) (b / 2) (omega arith))

pub letters-at : (n j : ℕ) (P : Pauli) → j < n → get_or (letters_of n P) j I ≡ letter_on j P
unfolding letters_of letter_on
letters-at n j P = letters_at-at n j P.a P.b

-- ---- counts of letters

-- Where a count adds for each letter what an operation on masks, bit by bit, makes of the letter's two bits, it is the
-- number of ones in the result.
module _
    (op : ℕ → ℕ → ℕ) (op-half : (a b : ℕ) → op a b / 2 ≡ op (a / 2) (b / 2))
    (op-low : (a b : ℕ) → op a b % 2 ≡ op (a % 2) (b % 2))
    (count : List Letter → ℕ) (start : count_ones (op 0 0) ≡ count [])
    (adds : (l : Letter) (s : List Letter) → count (l ∷ s) ≡ op (x_bit l) (z_bit l) + count s) where
  ones-count-letters : (s : List Letter) → count_ones (op (x_mask s) (z_mask s)) ≡ count s
  unfolding x_mask z_mask mask_of
  ones-count-letters [] = start
  ones-count-letters (l ∷ s) =
      joined_step op op-half op-low (x_mask (l ∷ s)) (z_mask (l ∷ s))
      ∙ simp (low_bit, half, x_bit-lt, z_bit-lt, ones-count-letters s, adds)

y-adds : (l : Letter) (s : List Letter) → count_y (l ∷ s) ≡ bit_and (x_bit l) (z_bit l) + count_y s
unfolding count_y
y-adds I s = omega arith
y-adds X s = omega arith
y-adds Y s = omega arith
y-adds Z s = omega arith

pub dot-counts-y : (s : List Letter) → dot (x_mask s) (z_mask s) ≡ count_y s
unfolding count_y dot
dot-counts-y = ones-count-letters bit_and and-half and_low count_y count_ones-zero y-adds

letter-adds : (l : Letter) (s : List Letter) → weight_of (l ∷ s) ≡ bit_or (x_bit l) (z_bit l) + weight_of s
unfolding weight_of letter_weight
letter-adds I s = refl
letter-adds X s = refl
letter-adds Y s = refl
letter-adds Z s = refl

pub weight-counts-letters : WeightCountsLetters
unfolding weight of_letters signed_row row_of weight_of
weight-counts-letters = ones-count-letters bit_or or-half or-low weight_of count_ones-zero letter-adds

pub weight-of-letters : (n : ℕ) (P : Pauli) → P.a < 2 ^ n → P.b < 2 ^ n → weight P ≡ weight_of (letters_of n P)
unfolding weight of_letters signed_row row_of
weight-of-letters n P ha hb = let m = masks-return n P ha hb in cc (m.0, m.1, weight-counts-letters (letters_of n P))
