-- Signed rows: a row is known by its sign and letters, and two rows that commute have a row for their product. A Pauli
-- is a signed row exactly where its phase and the count of its Y's have one parity, and that parity is additive over
-- the product but for the symplectic product of the two.
use mathlib.Core.Path.{◌≡◌, refl, ◌∙◌}
use mathlib.Core.Bool.{Bool, true, false, cond, ◌||◌, or-true}
use mathlib.Core.List.{List}
use Prim.Native.Nat.{ℕ, ◌+◌, ◌*◌, ◌/◌, ◌%◌, ◌^◌, ◌<◌}
use native.Mathlib.Omega.{arith}
use borrow.Author.Tests.{eqb-true, eqb-false, eq-eqb, ne_eqb}
use lib.Bits.{bit_xor}
use Rattle.pauli.specs.declared.Pauli.{Pauli}
use Rattle.letters.specs.declared.Letter.{Letter}
use Rattle.letters.specs.declared.Sign.{Sign}
use Rattle.letters.specs.declared.Sign.TheVariants.{Plus, Minus}
use Rattle.pauli.specs.Letters.{letters_of, x_mask, z_mask, count_y, row_phase, row_of, signed_row, has_sign}
use Rattle.letters.specs.Letters.{sign_phase}
use Rattle.pauli.specs.Letters.{is_signed_row, sign_of}
use Rattle.pauli.specs.Masks.{dot}
use Rattle.pauli.specs.Product.{product, commutes, symplectic, modulo4, has_phase}
use Rattle.pauli.proofs.Letters.{dot-counts-y, masks-return}
use Rattle.pauli.proofs.Masks.{dot-xor, dot-xor_l}
use Rattle.pauli.proofs.Modulo.{same-remainder, sum-remainder}
use Rattle.pauli.proofs.Product.{commutes-zero}

-- ---- signs and phases

pub row-phase-of-letters : (sign : Sign) (s : List Letter) → (signed_row sign s).p ≡ (count_y s + sign_phase sign) % 4
unfolding signed_row row_of row_phase
row-phase-of-letters sign s = rw dot-counts-y

phase-of-sign : (sign : Sign) (P : Pauli) → has_sign sign P ≡ true → row_phase sign P.a P.b ≡ P.p % 4
unfolding has_sign has_phase row_phase
phase-of-sign sign P h = omega (arith, eqb-true (P.p % 4) (row_phase sign P.a P.b % 4) h)

pub row-has-sign : (sign : Sign) (s : List Letter) → has_sign sign (signed_row sign s) ≡ true
unfolding has_sign has_phase signed_row row_of
row-has-sign sign s = let q = row_phase sign (x_mask s) (z_mask s) % 4 in eq-eqb q q refl

minus-is-not-plus : (s : List Letter) → has_sign Plus (signed_row Minus s) ≡ false
unfolding has_sign has_phase signed_row row_of row_phase
minus-is-not-plus s =
    ne_eqb (row_phase Minus (x_mask s) (z_mask s) % 4) (row_phase Plus (x_mask s) (z_mask s) % 4) (omega arith)

pub sign-returns : (sign : Sign) (s : List Letter) → sign_of (signed_row sign s) ≡ sign
unfolding sign_of
sign-returns Plus s = rw row-has-sign
sign-returns Minus s = rw minus-is-not-plus

pub signed-row-is-signed : (sign : Sign) (s : List Letter) → is_signed_row (signed_row sign s) ≡ true
unfolding is_signed_row
signed-row-is-signed Plus s = rw row-has-sign
signed-row-is-signed Minus s = rw (row-has-sign, or-true)

-- The sign that is read off a signed row is one that it has.
has-its-sign : (P : Pauli) → is_signed_row P ≡ true → has_sign (sign_of P) P ≡ true
unfolding is_signed_row sign_of
has-its-sign P = one_of (has_sign Plus P) refl
  where
    one_of : (plus : Bool) → has_sign Plus P ≡ plus → (plus || has_sign Minus P) ≡ true
        → has_sign (cond plus Plus Minus) P ≡ true
    one_of true e h = e
    one_of false e h = h

pub row-returns : (n : ℕ) (P : Pauli) → P.a < 2 ^ n → P.b < 2 ^ n → is_signed_row P ≡ true
    → signed_row (sign_of P) (letters_of n P) ≡ modulo4 P
unfolding signed_row row_of modulo4
row-returns n P ha hb h = let m = masks-return n P ha hb in
    cc (m.0, m.1, phase-of-sign (sign_of P) P (has-its-sign P h))

-- ---- the product of two rows

-- 0 where the Pauli is a signed row.
row_parity : Pauli → ℕ
row_parity P = (P.p + dot P.a P.b) % 2

even-of-row : (P : Pauli) → is_signed_row P ≡ true → row_parity P ≡ 0
unfolding row_parity row_phase
even-of-row P h = go (sign_of P) (phase-of-sign (sign_of P) P (has-its-sign P h))
  where
    go : (sign : Sign) → (dot P.a P.b + sign_phase sign) % 4 ≡ P.p % 4 → (P.p + dot P.a P.b) % 2 ≡ 0
    go Plus e = omega arith
    go Minus e = omega arith

row-of-even : (P : Pauli) → row_parity P ≡ 0 → is_signed_row P ≡ true
unfolding row_parity is_signed_row has_sign has_phase row_phase
row-of-even P h = go (has_sign Plus P) refl
  where
    go : (plus : Bool) → has_sign Plus P ≡ plus → (has_sign Plus P || has_sign Minus P) ≡ true
    go true e = rw e
    go false e =
        rw e (eq-eqb (P.p % 4) (row_phase Minus P.a P.b % 4)
        (omega (arith, eqb-false (P.p % 4) (row_phase Plus P.a P.b % 4) e)))

dot-four : (a b c d : ℕ) → dot (bit_xor a b) (bit_xor c d) % 2 ≡ ((dot a c + dot a d) + (dot b c + dot b d)) % 2
dot-four a b c d = dot-xor_l a b (bit_xor c d) ∙ sum-remainder 2 _ _ _ _ (dot-xor a c d) (dot-xor b c d)

row-parity-product : (P Q : Pauli) → row_parity (product P Q) ≡ (row_parity P + row_parity Q + symplectic P Q) % 2
unfolding row_parity product symplectic
row-parity-product P Q =
    same-remainder 2 _ _ (four / 2 + 2 * (phase / 4))
    ((P.p + dot P.a P.b) / 2 + (Q.p + dot Q.a Q.b) / 2 + (dot P.a Q.b + dot Q.a P.b) / 2
    + dot P.b Q.a
    + dot (bit_xor P.a Q.a) (bit_xor P.b Q.b) / 2)
    (omega (arith, dot-four P.a Q.a P.b Q.b))
  where
    four : ℕ
    four = (dot P.a P.b + dot P.a Q.b) + (dot Q.a P.b + dot Q.a Q.b)

    phase : ℕ
    phase = P.p + Q.p + 2 * dot P.b Q.a

pub rows-product : (P Q : Pauli) → is_signed_row P ≡ true → is_signed_row Q ≡ true → commutes P Q ≡ true
    → is_signed_row (product P Q) ≡ true
rows-product P Q hP hQ h =
    row-of-even (product P Q) (row-parity-product P Q ∙ rw (even-of-row P hP, even-of-row Q hQ, commutes-zero P Q h))
