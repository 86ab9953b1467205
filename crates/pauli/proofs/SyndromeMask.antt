-- A syndrome as a mask. The mask of a sum of bits is the sum of the masks, so the law of a product's syndrome holds of
-- the masks too; and bits of one number are told by their mask. Each goes bit by bit, the first of them the lowest.
use mathlib.Core.Bool.{Bool, true, false, cond, xor}
use mathlib.Core.List.{List, [], ◌∷◌, zip_with}
use mathlib.Core.Path.{◌≡◌, refl, ap, ap₂, sym, ◌∙◌}
use Prim.Native.Nat.{ℕ, ◌+◌, ◌*◌, ◌^◌, ◌<◌}
use native.Mathlib.Omega.{arith}
use lib.Bits.{bit_xor, xor_block, xor_self}
use lib.Dec.{lit<}
use lib.ListN.{length, length-map}
use Rattle.pauli.specs.declared.Pauli.{Pauli}
use Rattle.pauli.specs.Product.{identity, product, symplectic, commutes, anticommutes}
use Rattle.pauli.specs.Statements.{SyndromeMaskIsAdditive}
use Rattle.pauli.specs.Syndrome.{syndrome, add_bits, mask_of_bits, syndrome_mask}
use Rattle.pauli.proofs.Product.{pauli}
use Rattle.pauli.proofs.Syndrome.{syndrome-product}

-- ---- bits and their mask

abbrev bit : Bool → ℕ
bit b = cond b 1 0

bit-lt : (b : Bool) → bit b < 2
bit-lt true = lit< tt
bit-lt false = lit< tt

bit-xor : (x y : Bool) → bit (xor x y) ≡ bit_xor (bit x) (bit y)
unfolding xor
bit-xor true true = refl
bit-xor true false = refl
bit-xor false true = refl
bit-xor false false = refl

bit-tells : (x y : Bool) → bit x ≡ bit y → x ≡ y
bit-tells true true e = refl
bit-tells true false e = absurd (omega arith)
bit-tells false true e = absurd (omega arith)
bit-tells false false e = refl

-- A lowest bit before each of two masks.
low_first : (x m : ℕ) → x + 2 * m ≡ m * 2 ^ 1 + x
low_first x m = omega arith

xor-joined : (x y m k : ℕ) → x < 2 → y < 2 → bit_xor (x + 2 * m) (y + 2 * k) ≡ bit_xor x y + 2 * bit_xor m k
xor-joined x y m k hx hy =
    ap₂ bit_xor (low_first x m) (low_first y k) ∙ xor_block 1 m k x y hx hy
    ∙ sym (low_first (bit_xor x y) (bit_xor m k))

pub mask-of-sum : (s t : List Bool) → length s ≡ length t
    → mask_of_bits (add_bits s t) ≡ bit_xor (mask_of_bits s) (mask_of_bits t)
unfolding mask_of_bits add_bits zip_with
mask-of-sum [] [] h = refl
mask-of-sum [] (c ∷ t) h = absurd (omega arith)
mask-of-sum (b ∷ s) [] h = absurd (omega arith)
mask-of-sum (b ∷ s) (c ∷ t) h =
    ap₂ (λ (x m : ℕ). x + 2 * m) (bit-xor b c) (mask-of-sum s t (omega arith))
    ∙ sym (xor-joined (bit b) (bit c) (mask_of_bits s) (mask_of_bits t) (bit-lt b) (bit-lt c))

-- As many bits with the same mask are the same bits.
pub mask-tells-bits : (s t : List Bool) → length s ≡ length t → mask_of_bits s ≡ mask_of_bits t → s ≡ t
unfolding mask_of_bits
mask-tells-bits [] [] h e = refl
mask-tells-bits [] (c ∷ t) h e = absurd (omega arith)
mask-tells-bits (b ∷ s) [] h e = absurd (omega arith)
mask-tells-bits (b ∷ s) (c ∷ t) h e =
    ap₂ ◌∷◌ (bit-tells b c (omega (arith, bit-lt b, bit-lt c)))
    (mask-tells-bits s t (omega arith) (omega (arith, bit-lt b, bit-lt c)))

-- ---- the mask of a syndrome

pub length-syndrome : (rows : List Pauli) (P : Pauli) → length (syndrome rows P) ≡ length rows
unfolding syndrome
length-syndrome rows P = length-map rows (λ g. anticommutes g P)

pub syndrome-mask-is-additive : SyndromeMaskIsAdditive
unfolding syndrome_mask
syndrome-mask-is-additive rows P Q =
    ap mask_of_bits (syndrome-product rows P Q)
    ∙ mask-of-sum (syndrome rows P) (syndrome rows Q) (length-syndrome rows P ∙ sym (length-syndrome rows Q))

-- It depends on the masks of the Pauli alone.
pub syndrome-mask-of-masks : (rows : List Pauli) (P Q : Pauli) → P.a ≡ Q.a → P.b ≡ Q.b
    → syndrome_mask rows P ≡ syndrome_mask rows Q
unfolding syndrome_mask syndrome anticommutes commutes symplectic
syndrome-mask-of-masks rows P Q a b = ap₂ (λ (x y : ℕ). syndrome_mask rows (pauli 0 x y)) a b

-- That of I is 0, as I is its own square.
pub syndrome-mask-identity : (rows : List Pauli) → syndrome_mask rows identity ≡ 0
unfolding product
syndrome-mask-identity rows =
    syndrome-mask-of-masks rows identity (product identity identity) refl refl
    ∙ syndrome-mask-is-additive rows identity identity ∙ xor_self (syndrome_mask rows identity)
