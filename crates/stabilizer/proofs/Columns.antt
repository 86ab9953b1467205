-- Columns of a row read as bits a1..an, b1..bn: they add up under the product, and the pivot is the first that is one,
-- where a machine's count of zeros below a mask's lowest one finds it. What is said of the first one is proved of any
-- list of bits. What is said of a column goes by the mask in which it stands.
use mathlib.Core.Bool.{true, false, ◌&&◌, false≢true}
use mathlib.Core.List.{List, [], ◌∷◌, ◌++◌}
use mathlib.Core.Path.{◌≡◌, refl, ap, ap₂, sym, ◌∙◌}
use Prim.Native.Nat.{ℕ, zero, suc, ◌+◌, ◌-◌, ◌*◌, ◌/◌, ◌%◌, ◌^◌, ◌≤◌, ◌<◌, min}
use native.Mathlib.Decide.{dec_lt}
use native.Mathlib.Nat.{zero-div, div-one, add-sub_cancel_left}
use native.Mathlib.Numerals.{one-add}
use native.Mathlib.Omega.{arith}
use borrow.Author.Tests.{lt-ltb, eq-eqb}
use lib.Arith.{lt-one}
use lib.Bits.{bit_xor, xor_shr, xor_mod, xor_lt}
use lib.Count.{count_trailing_zeros, under, trailing_of_zero}
use lib.ListN.{length, get_or, length-append, get_or-eq_default, get_or-append}
use lib.Pow.{pow_pos, shr-shr}
use lib.Seq.{get_or-append-add, ext_get_or}
use Rattle.pauli.specs.declared.Pauli.{Pauli}
use Rattle.pauli.specs.Masks.{bits}
use Rattle.pauli.specs.Product.{identity, product, same_masks}
use Rattle.pauli.proofs.Masks.{digit, bits-determine}
use Rattle.code_record.specs.Record.{on_qubits}
use Rattle.code_record.proofs.Limits.{on-qubits}
use Rattle.stabilizer.specs.Canonical.{columns, column, first_one, pivot}

-- ---- the first one of a list

first-le : (bs : List ℕ) → first_one bs ≤ length bs
unfolding first_one
first-le [] = omega arith
first-le (zero ∷ bs) = omega (arith, first-le bs)
first-le (suc b ∷ bs) = omega arith

first_one_stands : (bs : List ℕ) → first_one bs < length bs → 0 < get_or bs (first_one bs) 0
unfolding first_one
first_one_stands [] h = absurd (omega arith)
first_one_stands (zero ∷ bs) h = first_one_stands bs (omega arith)
first_one_stands (suc b ∷ bs) h = omega arith

before-first : (bs : List ℕ) (c : ℕ) → c < first_one bs → get_or bs c 0 ≡ 0
unfolding first_one
before-first [] c h = refl
before-first (zero ∷ bs) zero h = refl
before-first (zero ∷ bs) (suc c) h = before-first bs c (omega arith)
before-first (suc b ∷ bs) c h = absurd (omega arith)

first-unique : (bs : List ℕ) (c : ℕ) → 0 < get_or bs c 0 → ((j : ℕ) → j < c → get_or bs j 0 ≡ 0) → first_one bs ≡ c
unfolding first_one
first-unique [] c one zeros = absurd (omega arith)
first-unique (zero ∷ bs) zero one zeros = absurd (omega arith)
first-unique (zero ∷ bs) (suc c) one zeros = ap suc (first-unique bs c one (λ j h. zeros (suc j) (omega arith)))
first-unique (suc b ∷ bs) zero one zeros = refl
first-unique (suc b ∷ bs) (suc c) one zeros = absurd (omega (arith, zeros 0 (omega arith)))

first-left : (xs ys : List ℕ) → first_one xs < length xs → first_one (xs ++ ys) ≡ first_one xs
unfolding first_one
first-left [] ys h = absurd (omega arith)
first-left (zero ∷ xs) ys h = ap suc (first-left xs ys (omega arith))
first-left (suc b ∷ xs) ys h = refl

first-right : (xs ys : List ℕ) → first_one xs ≡ length xs → first_one (xs ++ ys) ≡ length xs + first_one ys
unfolding first_one
first-right [] ys h = omega arith
first-right (zero ∷ xs) ys h = omega (arith, first-right xs ys (omega arith))
first-right (suc b ∷ xs) ys h = absurd (omega arith)

-- ---- the bits of a mask

length-bits : (n m : ℕ) → length (bits n m) ≡ n
unfolding bits
length-bits zero m = refl
length-bits (suc n) m = ap suc (length-bits n (m / 2))

bit_at : (n m j : ℕ) → j < n → get_or (bits n m) j 0 ≡ m / 2 ^ j % 2
unfolding bits
bit_at zero m j h = absurd (omega arith)
bit_at (suc n) m zero h = rw div-one
bit_at (suc n) m (suc j) h = bit_at n (m / 2) j (omega arith) ∙ ap (λ (x : ℕ). x % 2) (shr-shr m 1 j) ∙ rw one-add

-- The bits of two masks joined by xor add up.
xor-bit : (a b j : ℕ) → bit_xor a b / 2 ^ j % 2 ≡ (a / 2 ^ j % 2 + b / 2 ^ j % 2) % 2
xor-bit a b j = ap (λ (x : ℕ). x % 2) (xor_shr a b j) ∙ xor_mod (a / 2 ^ j) (b / 2 ^ j) 1 ∙ low (a / 2 ^ j) (b / 2 ^ j)
  where
    low : (x y : ℕ) → bit_xor (x % 2) (y % 2) ≡ (x % 2 + y % 2) % 2
    low x y =
        digit (λ (u : ℕ). bit_xor u (y % 2) ≡ (u + y % 2) % 2)
        (digit (λ (v : ℕ). bit_xor 0 v ≡ (0 + v) % 2) refl refl y)
        (digit (λ (v : ℕ). bit_xor 1 v ≡ (1 + v) % 2) refl refl y) x

-- A mask with no one among its bits is 0.
zero-mask : (n m : ℕ) → m < 2 ^ n → ((j : ℕ) → j < n → m / 2 ^ j % 2 ≡ 0) → m ≡ 0
zero-mask n m h zeros =
    bits-determine n m 0 h (pow_pos n) (ext_get_or 0 (bits n m) (bits n 0) (length-bits n m
    ∙ sym (length-bits n 0)) same)
  where
    same : (j : ℕ) → j < length (bits n m) → get_or (bits n m) j 0 ≡ get_or (bits n 0) j 0
    same j l =
        let b : j < n = omega (arith, length-bits n m) in
        bit_at n m j b ∙ zeros j b ∙ sym (bit_at n 0 j b ∙ rw zero-div)

pub first_one-le : (n m : ℕ) → first_one (bits n m) ≤ n
first_one-le n m = omega (arith, first-le (bits n m), length-bits n m)

-- The zeros below a mask's lowest one, as a machine counts them.
first_one-trailing : (k m : ℕ) → first_one (bits k m) ≡ count_trailing_zeros k m
unfolding first_one bits count_trailing_zeros
first_one-trailing zero m = refl
first_one-trailing (suc k) m =
    digit (λ (d : ℕ). first_one (d ∷ bits k (m / 2)) ≡ under d (first_one (bits k (m / 2)))) refl refl m
    ∙ ap (under (m % 2)) (first_one-trailing k (m / 2))

-- So a count over k bits finds the first one among n bits, or finds that there is none.
pub first_one-found : (n k m : ℕ) → count_trailing_zeros k m < n → count_trailing_zeros k m < k
    → first_one (bits n m) ≡ count_trailing_zeros k m
unfolding first_one bits count_trailing_zeros
first_one-found zero k m hn hk = absurd (omega arith)
first_one-found (suc n) zero m hn hk = absurd (omega arith)
first_one-found (suc n) (suc k) m hn hk =
    let t = count_trailing_zeros k (m / 2) in
    digit (λ (d : ℕ). under d t < suc n → under d t < suc k → first_one (d ∷ bits n (m / 2)) ≡ under d t)
    (λ hn hk. ap suc (first_one-found n k (m / 2) (omega arith) (omega arith))) (λ hn hk. refl) m hn hk

pub first_one-missed : (n k m : ℕ) → m < 2 ^ k → min n k ≤ count_trailing_zeros k m → first_one (bits n m) ≡ n
unfolding first_one bits count_trailing_zeros
first_one-missed zero k m hm h = refl
first_one-missed (suc n) zero m hm h =
    ap (λ (x : ℕ). first_one (bits (suc n) x)) (lt-one hm) ∙ first_one-trailing (suc n) 0 ∙ trailing_of_zero (suc n)
first_one-missed (suc n) (suc k) m hm h =
    let t = count_trailing_zeros k (m / 2) in
    digit (λ (d : ℕ). min (suc n) (suc k) ≤ under d t → first_one (d ∷ bits n (m / 2)) ≡ suc n)
    (λ h. ap suc (first_one-missed n k (m / 2) (omega arith) (omega arith))) (λ h. absurd (omega arith)) m h

module _ (n : ℕ) where
  length-columns : (P : Pauli) → length (columns n P) ≡ 2 * n
  unfolding columns
  length-columns P = rw length-append (omega (arith, length-bits n P.a, length-bits n P.b))

  -- ---- a column is a bit of a mask

  pub column-x : (P : Pauli) (c : ℕ) → c < n → column n P c ≡ P.a / 2 ^ c % 2
  unfolding column columns
  column-x P c h =
      get_or-append (bits n P.a) (bits n P.b) 0 c (omega (arith, length-bits n P.a)) ∙ bit_at n P.a c h

  pub column-z : (P : Pauli) (c : ℕ) → n ≤ c → c < 2 * n → column n P c ≡ P.b / 2 ^ (c - n) % 2
  unfolding column columns
  column-z P c l h =
      let at : c ≡ length (bits n P.a) + (c - n) = omega (arith, length-bits n P.a) in
      ap (λ (i : ℕ). get_or (bits n P.a ++ bits n P.b) i 0) at
      ∙ get_or-append-add (bits n P.a) (bits n P.b) (c - n) 0 ∙ bit_at n P.b (c - n) (omega arith)

  pub column-outside : (P : Pauli) (c : ℕ) → 2 * n ≤ c → column n P c ≡ 0
  unfolding column
  column-outside P c h = get_or-eq_default (columns n P) 0 (omega (arith, length-columns P))

  -- Whichever it is, it is read from a mask that adds up under the product and is 0 for I.
  record BitAt (c : ℕ) : Type 0 where
    mask : Pauli → ℕ
    place : ℕ
    reads : (P : Pauli) → column n P c ≡ mask P / 2 ^ place % 2
    sums : (P Q : Pauli) → mask (product P Q) ≡ bit_xor (mask P) (mask Q)
    none : mask identity ≡ 0

  bit-of : (c : ℕ) → BitAt c
  unfolding product
  bit-of c = elim (dec_lt c n) [
    | yes h ↦ record { mask = λ P. P.a; place = c; reads = λ P. column-x P c h; sums = λ P Q. refl; none = refl }
    | no l ↦ elim (dec_lt c (2 * n)) [
      | yes h ↦ record {
        mask = λ P. P.b;
        place = c - n;
        reads = λ P. column-z P c (omega arith) h;
        sums = λ P Q. refl;
        none = refl;
      }
      | no h ↦ record {
        mask = λ P. 0;
        place = 0;
        reads = λ P. column-outside P c (omega arith);
        sums = λ P Q. refl;
        none = refl;
      }
    ]
  ]

  pub column-product : (P Q : Pauli) (c : ℕ) → column n (product P Q) c ≡ (column n P c + column n Q c) % 2
  column-product P Q c =
      let bit = bit-of c in
      bit.reads (product P Q) ∙ ap (λ (m : ℕ). m / 2 ^ bit.place % 2) (bit.sums P Q)
      ∙ xor-bit (bit.mask P) (bit.mask Q) bit.place
      ∙ ap₂ (λ (x y : ℕ). (x + y) % 2) (sym (bit.reads P)) (sym (bit.reads Q))

  pub column-lt : (P : Pauli) (c : ℕ) → column n P c < 2
  column-lt P c = omega (arith, (bit-of c).reads P)

  pub column-identity : (c : ℕ) → column n identity c ≡ 0
  column-identity c = let bit = bit-of c in bit.reads identity ∙ ap (λ (m : ℕ). m / 2 ^ bit.place % 2) bit.none
      ∙ rw zero-div

  -- Masks decide the columns, and so the pivot.
  pub column-masks : (P Q : Pauli) → P.a ≡ Q.a → P.b ≡ Q.b → (c : ℕ) → column n P c ≡ column n Q c
  unfolding column columns
  column-masks P Q a b c = ap₂ (λ (x y : ℕ). get_or (bits n x ++ bits n y) c 0) a b

  -- ---- the pivot

  pub pivot-x : (P : Pauli) → first_one (bits n P.a) < n → pivot n P ≡ first_one (bits n P.a)
  unfolding pivot columns
  pivot-x P h = first-left (bits n P.a) (bits n P.b) (omega (arith, length-bits n P.a))

  pub pivot-z : (P : Pauli) → first_one (bits n P.a) ≡ n → pivot n P ≡ n + first_one (bits n P.b)
  unfolding pivot columns
  pivot-z P h =
      omega (
        arith,
        first-right (bits n P.a) (bits n P.b) (omega (arith, length-bits n P.a)),
        length-bits n P.a,
      )

  pivot-le : (P : Pauli) → pivot n P ≤ 2 * n
  unfolding pivot
  pivot-le P = omega (arith, first-le (columns n P), length-columns P)

  pub pivot-column : (P : Pauli) → pivot n P < 2 * n → column n P (pivot n P) ≡ 1
  unfolding pivot column
  pivot-column P h = omega (
    arith,
    first_one_stands (columns n P) (omega (arith, length-columns P)),
    column-lt P
        (pivot n P),
  )

  pub before-pivot : (P : Pauli) (c : ℕ) → c < pivot n P → column n P c ≡ 0
  unfolding pivot column
  before-pivot P c h = before-first (columns n P) c h

  pub one-behind-pivot : (P : Pauli) (c : ℕ) → column n P c ≡ 1 → pivot n P ≤ c
  one-behind-pivot P c one =
      elim (dec_lt c (pivot n P)) [ yes h ↦ absurd (omega (arith, before-pivot P c h)) | no h ↦ omega arith ]

  pub one_inside : (P : Pauli) (c : ℕ) → column n P c ≡ 1 → c < 2 * n
  one_inside P c one =
      elim (dec_lt c (2 * n)) [ yes h ↦ h | no h ↦ absurd (omega (arith, column-outside P c (omega arith))) ]

  pub pivot-first : (P : Pauli) (c : ℕ) → column n P c ≡ 1 → ((j : ℕ) → j < c → column n P j ≡ 0) → pivot n P ≡ c
  unfolding pivot column
  pivot-first P c one zeros = first-unique (columns n P) c (omega arith) zeros

  -- A row of n qubits with no one is I, phase aside; any other has a pivot.
  no_ones : (P : Pauli) → on_qubits n P ≡ true → ((c : ℕ) → c < 2 * n → column n P c ≡ 0) → (P.a ≡ 0) × (P.b ≡ 0)
  no_ones P q zeros =
      let h = on-qubits n P q in (
        zero-mask n P.a h.0 (λ j l. sym (column-x P j l) ∙ zeros j (omega arith)),
        zero-mask n P.b h.1
            (λ j l. (rw add-sub_cancel_left at (sym (column-z P (n + j) (omega arith) (omega arith))))
            ∙ zeros (n + j) (omega arith)),
      )

  pub has-pivot : (P : Pauli) → on_qubits n P ≡ true → same_masks P identity ≡ false → pivot n P < 2 * n
  unfolding same_masks
  has-pivot P q h = elim (dec_lt (pivot n P) (2 * n)) [
    | yes l ↦ l
    | no l ↦
        let z = no_ones P q (λ c b. before-pivot P c (omega (arith, pivot-le P))) in
        absurd (false≢true (sym h ∙ ap₂ ◌&&◌ (eq-eqb P.a 0 z.0) (eq-eqb P.b 0 z.1)))
  ]

  pub product-on-qubits : (P Q : Pauli) → on_qubits n P ≡ true → on_qubits n Q ≡ true → on_qubits n (product P Q) ≡ true
  unfolding on_qubits product
  product-on-qubits P Q p q =
      let hp = on-qubits n P p in
      let hq = on-qubits n Q q in
      ap₂ ◌&&◌ (lt-ltb _ _ (xor_lt n P.a Q.a hp.0 hq.0))
      (lt-ltb _ _ (xor_lt n P.b Q.b hp.1 hq.1))
