-- Laws of masks of any width. Each is proved by halving: what holds of the lowest bits, which are 0 or 1, and of the
-- halves holds of the masks. The library has the rest: xor_comm, xor-zero-l, xor-zero-r, xor-self, and that n-bit masks
-- are closed (xor-lt, and-lt, or-lt), in lib.Bits.
use mathlib.Core.List.{head-eq_of_cons-eq, tail-eq_of_cons-eq}
use mathlib.Core.Path.{◌≡◌, refl, ap, ap₂, sym, ◌∙◌}
use Prim.Native.Nat.{ℕ, zero, suc, ◌+◌, ◌*◌, ◌/◌, ◌%◌, ◌^◌, ◌<◌, ◌≤◌}
use native.Mathlib.Nat.{mod-lt, div-eq_of_lt, lt_of_lt_of_le, pow-le-pow_right}
use native.Mathlib.Omega.{arith}
use lib.Arith.{bin_ind}
use lib.Bits.{bit_and, bit_or, bit_xor, and_shr, and_mod, or_shr, or_mod, xor_shr, xor_mod, and_comm, and_le_l}
use lib.Bits.{xor_comm}
use lib.Count.{ones, ones_in, ones_step, ones-le}
use Rattle.pauli.proofs.Modulo.{same-remainder}
use Rattle.pauli.specs.Masks.{ones_among, count_ones, dot, bits}

-- ---- digits and halves

-- What holds of 0 and 1 holds of a lowest bit.
pub digit : (P : ℕ → Type 0) → P 0 → P 1 → (m : ℕ) → P (m % 2)
digit P p0 p1 m = go (m % 2) (mod-lt m (omega arith))
  where
    go : (x : ℕ) → x < 2 → P x
    go zero h = p0
    go (suc zero) h = p1
    go (suc (suc x)) h = absurd (omega arith)

pub by-halves : (m n : ℕ) → m / 2 ≡ n / 2 → m % 2 ≡ n % 2 → m ≡ n
by-halves m n halves lowest = omega arith

pub xor-half : (a b : ℕ) → bit_xor a b / 2 ≡ bit_xor (a / 2) (b / 2)
xor-half a b = xor_shr a b 1

pub xor_low : (a b : ℕ) → bit_xor a b % 2 ≡ bit_xor (a % 2) (b % 2)
xor_low a b = xor_mod a b 1

pub and-half : (a b : ℕ) → bit_and a b / 2 ≡ bit_and (a / 2) (b / 2)
and-half a b = and_shr a b 1

pub and_low : (a b : ℕ) → bit_and a b % 2 ≡ bit_and (a % 2) (b % 2)
and_low a b = and_mod a b 1

pub or-half : (a b : ℕ) → bit_or a b / 2 ≡ bit_or (a / 2) (b / 2)
or-half a b = or_shr a b 1

pub or-low : (a b : ℕ) → bit_or a b % 2 ≡ bit_or (a % 2) (b % 2)
or-low a b = or_mod a b 1

-- ---- xor and and

xor_assoc-low : (a b c : ℕ) → bit_xor (bit_xor (a % 2) (b % 2)) (c % 2) ≡ bit_xor (a % 2) (bit_xor (b % 2) (c % 2))
xor_assoc-low a b c =
    digit (λ x. bit_xor (bit_xor x (b % 2)) (c % 2) ≡ bit_xor x (bit_xor (b % 2) (c % 2))) refl
    (digit (λ y. bit_xor (bit_xor 1 y) (c % 2) ≡ bit_xor 1 (bit_xor y (c % 2))) refl
    (digit (λ z. bit_xor (bit_xor 1 1) z ≡ bit_xor 1 (bit_xor 1 z)) refl refl c) b) a

pub xor_assoc : (a b c : ℕ) → bit_xor (bit_xor a b) c ≡ bit_xor a (bit_xor b c)
xor_assoc =
    bin_ind (λ (a : ℕ). (b c : ℕ) → bit_xor (bit_xor a b) c ≡ bit_xor a (bit_xor b c)) (λ b c. refl)
    (λ a ih b c. by-halves (bit_xor (bit_xor a b) c) (bit_xor a (bit_xor b c))
    (xor-half (bit_xor a b) c ∙ ap (λ (x : ℕ). bit_xor x (c / 2)) (xor-half a b) ∙ ih (b / 2) (c / 2)
    ∙ sym (xor-half a (bit_xor b c) ∙ ap (bit_xor (a / 2)) (xor-half b c)))
    (xor_low (bit_xor a b) c ∙ ap (λ (x : ℕ). bit_xor x (c % 2)) (xor_low a b) ∙ xor_assoc-low a b c
    ∙ sym (xor_low a (bit_xor b c) ∙ ap (bit_xor (a % 2)) (xor_low b c))))

pub xor_swap : (a b c d : ℕ) → bit_xor (bit_xor a b) (bit_xor c d) ≡ bit_xor (bit_xor a c) (bit_xor b d)
xor_swap a b c d =
    xor_assoc a b (bit_xor c d)
    ∙ ap (bit_xor a) (sym (xor_assoc b c d) ∙ ap (λ (x : ℕ). bit_xor x d) (xor_comm b c) ∙ xor_assoc c b d)
    ∙ sym (xor_assoc a c (bit_xor b d))

and-xor-low : (a b c : ℕ)
    → bit_and (a % 2) (bit_xor (b % 2) (c % 2)) ≡ bit_xor (bit_and (a % 2) (b % 2)) (bit_and (a % 2) (c % 2))
and-xor-low a b c =
    digit (λ x. bit_and x (bit_xor (b % 2) (c % 2)) ≡ bit_xor (bit_and x (b % 2)) (bit_and x (c % 2))) refl
    (digit (λ y. bit_and 1 (bit_xor y (c % 2)) ≡ bit_xor (bit_and 1 y) (bit_and 1 (c % 2)))
    (digit (λ z. bit_and 1 (bit_xor 0 z) ≡ bit_xor (bit_and 1 0) (bit_and 1 z)) refl refl c)
    (digit (λ z. bit_and 1 (bit_xor 1 z) ≡ bit_xor (bit_and 1 1) (bit_and 1 z)) refl refl c) b) a

pub and_xor : (a b c : ℕ) → bit_and a (bit_xor b c) ≡ bit_xor (bit_and a b) (bit_and a c)
and_xor =
    bin_ind (λ (a : ℕ). (b c : ℕ) → bit_and a (bit_xor b c) ≡ bit_xor (bit_and a b) (bit_and a c)) (λ b c. refl)
    (λ a ih b c. by-halves (bit_and a (bit_xor b c)) (bit_xor (bit_and a b) (bit_and a c))
    (and-half a (bit_xor b c) ∙ ap (bit_and (a / 2)) (xor-half b c) ∙ ih (b / 2) (c / 2)
    ∙ sym (xor-half (bit_and a b) (bit_and a c) ∙ ap₂ bit_xor (and-half a b) (and-half a c)))
    (and_low a (bit_xor b c) ∙ ap (bit_and (a % 2)) (xor_low b c) ∙ and-xor-low a b c
    ∙ sym (xor_low (bit_and a b) (bit_and a c) ∙ ap₂ bit_xor (and_low a b) (and_low a c))))

-- ---- counts of ones

ones_in-zero : (k : ℕ) → ones_in k 0 ≡ 0
unfolding ones_in
ones_in-zero zero = refl
ones_in-zero (suc k) = ap (λ (x : ℕ). 0 + x) (ones_in-zero k)

ones_among-ones_in : (k m : ℕ) → ones_among k m ≡ ones_in k m
unfolding ones_among ones_in
ones_among-ones_in zero m = refl
ones_among-ones_in (suc k) zero = rw ones_in-zero
ones_among-ones_in (suc k) (suc m) = ap (λ (x : ℕ). suc m % 2 + x) (ones_among-ones_in k (suc m / 2))

-- The count of the definitions is the library's: the two differ in where they stop.
pub count_ones-ones : (m : ℕ) → count_ones m ≡ ones m
unfolding count_ones ones
count_ones-ones m = ones_among-ones_in m m

pub count_ones-zero : count_ones 0 ≡ 0
unfolding count_ones ones_among
count_ones-zero = refl

-- A mask's ones are its lowest bit and those of its half.
pub count_ones-step : (m : ℕ) → count_ones m ≡ m % 2 + count_ones (m / 2)
count_ones-step m = count_ones-ones m ∙ ones_step m ∙ ap (λ (x : ℕ). m % 2 + x) (sym (count_ones-ones (m / 2)))

-- So the ones of two masks joined bit by bit are those of their lowest bits and of their halves.
module _
    (f : ℕ → ℕ → ℕ) (half : (a b : ℕ) → f a b / 2 ≡ f (a / 2) (b / 2))
    (low : (a b : ℕ) → f a b % 2 ≡ f (a % 2) (b % 2)) where
  pub joined_step : (a b : ℕ) → count_ones (f a b) ≡ f (a % 2) (b % 2) + count_ones (f (a / 2) (b / 2))
  joined_step a b = count_ones-step (f a b) ∙ ap₂ (λ (x y : ℕ). x + count_ones y) (low a b) (half a b)

  -- And with what they share, G, they are the ones of both, if the lowest bits are.
  joined-and-shared : (G shared : ℕ → ℕ → ℕ) → ((a b : ℕ) → G a b ≡ shared (a % 2) (b % 2) + G (a / 2) (b / 2))
      → ((a b : ℕ) → f (a % 2) (b % 2) + shared (a % 2) (b % 2) ≡ a % 2 + b % 2)
      → ((b : ℕ) → count_ones (f 0 b) + G 0 b ≡ count_ones 0 + count_ones b)
      → (a b : ℕ) → count_ones (f a b) + G a b ≡ count_ones a + count_ones b
  joined-and-shared G shared step lowest base =
      bin_ind (λ (a : ℕ). (b : ℕ) → count_ones (f a b) + G a b ≡ count_ones a + count_ones b) base
      (λ a ih b. omega
      (arith, joined_step a b, step a b, count_ones-step a, count_ones-step b, ih (b / 2), lowest a b))

-- The ones of a and of b are those where they differ and, twice, those that they share.
pub count_ones-xor : (a b : ℕ) → count_ones (bit_xor a b) + 2 * count_ones (bit_and a b) ≡ count_ones a + count_ones b
count_ones-xor =
    joined-and-shared bit_xor xor-half xor_low (λ a b. 2 * count_ones (bit_and a b)) (λ x y. 2 * bit_and x y)
    (λ a b. omega (arith, joined_step bit_and and-half and_low a b)) low base
  where
    base : (b : ℕ) → count_ones b + 2 * count_ones 0 ≡ count_ones 0 + count_ones b
    base b = omega (arith, count_ones-zero)

    low : (a b : ℕ) → bit_xor (a % 2) (b % 2) + 2 * bit_and (a % 2) (b % 2) ≡ a % 2 + b % 2
    low a b =
        digit (λ x. bit_xor x (b % 2) + 2 * bit_and x (b % 2) ≡ x + b % 2) (omega arith)
        (digit (λ y. bit_xor 1 y + 2 * bit_and 1 y ≡ 1 + y) refl refl b) a

pub count_ones-xor_le : (a b : ℕ) → count_ones (bit_xor a b) ≤ count_ones a + count_ones b
count_ones-xor_le a b = omega (arith, count_ones-xor a b)

pub parity-xor : (a b : ℕ) → count_ones (bit_xor a b) % 2 ≡ (count_ones a + count_ones b) % 2
parity-xor a b = same-remainder 2 _ _ (count_ones (bit_and a b)) 0 (omega (arith, count_ones-xor a b))

-- Those of either are fewer by those that they share.
pub count_ones-or : (a b : ℕ) → count_ones (bit_or a b) + count_ones (bit_and a b) ≡ count_ones a + count_ones b
count_ones-or =
    joined-and-shared bit_or or-half or-low (λ a b. count_ones (bit_and a b)) bit_and
    (joined_step bit_and and-half and_low)
    low base
  where
    base : (b : ℕ) → count_ones b + count_ones 0 ≡ count_ones 0 + count_ones b
    base b = omega arith

    low : (a b : ℕ) → bit_or (a % 2) (b % 2) + bit_and (a % 2) (b % 2) ≡ a % 2 + b % 2
    low a b =
        digit (λ x. bit_or x (b % 2) + bit_and x (b % 2) ≡ x + b % 2) (omega arith)
        (digit (λ y. bit_or 1 y + bit_and 1 y ≡ 1 + y) refl refl b) a

pub twice-or : (a b : ℕ) → 2 * count_ones (bit_or a b) ≡ count_ones a + count_ones b + count_ones (bit_xor a b)
twice-or a b = omega (arith, count_ones-or a b, count_ones-xor a b)

-- ---- a·b

-- As a machine counts it, with the bound that its type gives.
pub dot-ones : (a b : ℕ) → dot a b ≡ ones (bit_and a b)
unfolding dot
dot-ones a b = count_ones-ones (bit_and a b)

pub ones-and-le : (k a b : ℕ) → a < 2 ^ k → ones (bit_and a b) ≤ k
ones-and-le k a b h = ones-le k (bit_and a b) (omega (arith, and_le_l a b))

pub dot-comm : (a b : ℕ) → dot a b ≡ dot b a
unfolding dot
dot-comm a b = ap count_ones (and_comm a b)

-- The parity of a·b is additive over xor.
pub dot-xor : (a b c : ℕ) → dot a (bit_xor b c) % 2 ≡ (dot a b + dot a c) % 2
unfolding dot
dot-xor a b c = ap (λ (x : ℕ). count_ones x % 2) (and_xor a b c) ∙ parity-xor (bit_and a b) (bit_and a c)

pub dot-xor_l : (a b c : ℕ) → dot (bit_xor a b) c % 2 ≡ (dot a c + dot b c) % 2
dot-xor_l a b c = rw (dot-comm (bit_xor a b) c, dot-comm a c, dot-comm b c) (dot-xor c a b)

-- ---- a mask below 2^n is its n bits

-- It has none beyond them.
pub no-high-bits : (n m j : ℕ) → m < 2 ^ n → n ≤ j → m / 2 ^ j ≡ 0
no-high-bits n m j h l = div-eq_of_lt (lt_of_lt_of_le h (pow-le-pow_right (omega arith) l))

pub bits-determine : (n a b : ℕ) → a < 2 ^ n → b < 2 ^ n → bits n a ≡ bits n b → a ≡ b
unfolding bits
bits-determine zero a b ha hb same = omega arith
bits-determine (suc n) a b ha hb same =
    by-halves a b (bits-determine n (a / 2) (b / 2) (omega arith) (omega arith) (tail-eq_of_cons-eq same))
    (head-eq_of_cons-eq same)
