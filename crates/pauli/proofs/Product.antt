-- Paulis with phase are a group, and what commutes in it. Phases are compared as remainders by 4, where twice a count
-- of ones depends on its parity alone.
use mathlib.Core.Bool.{Bool, true, false, not, xor, false≢true}
use mathlib.Core.Logic.{◌↔◌}
use mathlib.Core.Path.{◌≡◌, refl, ap, ap₂, sym, ◌∙◌}
use Prim.Native.Nat.{ℕ, ◌+◌, ◌*◌, ◌/◌, ◌%◌, ◌<◌, ◌≤◌}
use native.Mathlib.Nat.{add-mod, mod-lt, mod-eq_of_lt}
use native.Mathlib.Omega.{arith}
use lib.Bits.{bit_and, bit_xor, xor_comm, xor_zero_r, xor_self}
use lib.Count.{ones}
use lib.Dec.{eqb}
use borrow.Author.Tests.{eqb-true}
use Rattle.pauli.specs.declared.Pauli.{Pauli}
use Rattle.pauli.specs.Masks.{dot}
use Rattle.pauli.specs.Product.{identity, product, negated, inverse, symplectic, commutes, anticommutes, weight}
use Rattle.pauli.specs.Product.{modulo4}
use Rattle.pauli.proofs.Masks.{digit, xor_assoc, dot-comm, dot-ones, dot-xor, dot-xor_l, count_ones-zero}
use Rattle.pauli.proofs.Masks.{count_ones-xor_le, twice-or, xor_swap}
use Rattle.pauli.proofs.Modulo.{same-remainder, sum-remainder}

abbrev pub pauli : ℕ → ℕ → ℕ → Pauli
pauli p a b = record { p = p; a = a; b = b }

-- Two Paulis with the same parts are the same.
pub same_parts : (P Q : Pauli) → P.p ≡ Q.p → P.a ≡ Q.a → P.b ≡ Q.b → P ≡ Q
same_parts P Q p a b = ap (λ (x : ℕ). pauli x P.a P.b) p ∙ ap₂ (pauli Q.p) a b

-- The product as a machine computes it, with the phases read modulo 4 and the count modulo 2 as they come in.
pub product-computed : (P Q : Pauli)
    → pauli ((P.p % 4 + Q.p % 4 + 2 * (ones (bit_and P.b Q.a) % 2)) % 4) (bit_xor P.a Q.a)
    (bit_xor P.b Q.b)
    ≡ product P Q
unfolding product
product-computed P Q =
    ap (λ (x : ℕ). pauli x (bit_xor P.a Q.a) (bit_xor P.b Q.b))
    (same-remainder 4 _ _ (P.p / 4 + Q.p / 4 + dot P.b Q.a / 2) 0 (omega (arith, dot-ones P.b Q.a)))

-- ---- a group

pub product-assoc : (P Q R : Pauli) → product (product P Q) R ≡ product P (product Q R)
unfolding product
product-assoc P Q R =
    same_parts (product (product P Q) R) (product P (product Q R))
    (same-remainder 4 _ _ (s / 4 + w / 2 + y / 2) (t / 4 + x / 2 + z / 2)
    (omega (arith, dot-xor_l P.b Q.b R.a, dot-xor P.b Q.a R.a)))
    (xor_assoc P.a Q.a R.a) (xor_assoc P.b Q.b R.b)
  where
    s : ℕ
    s = P.p + Q.p + 2 * dot P.b Q.a

    t : ℕ
    t = Q.p + R.p + 2 * dot Q.b R.a

    x : ℕ
    x = dot (bit_xor P.b Q.b) R.a

    w : ℕ
    w = dot P.b R.a + dot Q.b R.a

    y : ℕ
    y = dot P.b (bit_xor Q.a R.a)

    z : ℕ
    z = dot P.b Q.a + dot P.b R.a

dot-zero-l : (m : ℕ) → dot 0 m ≡ 0
unfolding dot
dot-zero-l m = count_ones-zero

dot-zero-r : (m : ℕ) → dot m 0 ≡ 0
dot-zero-r m = dot-comm m 0 ∙ dot-zero-l m

pub product-identity-l : (P : Pauli) → product identity P ≡ modulo4 P
unfolding product modulo4
product-identity-l P =
    same_parts (product identity P) (modulo4 P) (ap (λ (x : ℕ). x % 4) (omega (arith, dot-zero-l P.a))) refl refl

pub product-identity-r : (P : Pauli) → product P identity ≡ modulo4 P
unfolding product modulo4
product-identity-r P =
    same_parts (product P identity) (modulo4 P) (ap (λ (x : ℕ). x % 4) (omega (arith, dot-zero-r P.b)))
    (xor_zero_r P.a) (xor_zero_r P.b)

inverse-phase : (p d : ℕ) → (p + (3 * p + 2 * d) % 4 + 2 * d) % 4 ≡ 0
inverse-phase p d = same-remainder 4 _ 0 ((3 * p + 2 * d) / 4) (p + d) (omega arith)

pub product-inverse-r : (P : Pauli) → product P (inverse P) ≡ identity
unfolding product inverse
product-inverse-r P =
    same_parts (product P (inverse P)) identity (inverse-phase P.p (dot P.b P.a)) (xor_self P.a)
    (xor_self P.b)

pub product-inverse-l : (P : Pauli) → product (inverse P) P ≡ identity
unfolding product inverse
product-inverse-l P =
    same_parts (product (inverse P) P) identity
    (ap (λ (x : ℕ). x % 4) (omega arith) ∙ inverse-phase P.p (dot P.b P.a)) (xor_self P.a) (xor_self P.b)

-- ---- commuting

pub symplectic-comm : (P Q : Pauli) → symplectic P Q ≡ symplectic Q P
unfolding symplectic
symplectic-comm P Q = ap (λ (x : ℕ). x % 2) (omega arith)

pub symplectic-product : (R P Q : Pauli) → symplectic R (product P Q) ≡ (symplectic R P + symplectic R Q) % 2
unfolding symplectic product
symplectic-product R P Q =
    sum-remainder 2 _ _ _ _ (dot-xor R.a P.b Q.b) (dot-xor_l P.a Q.a R.b)
    ∙ ap (λ (x : ℕ). x % 2) (omega arith)
    ∙ add-mod (dot R.a P.b + dot P.a R.b) (dot R.a Q.b + dot Q.a R.b) 2

-- The order of a product changes its phase by 2 where the two anticommute, and nothing else.
swapped-phase : (P Q : Pauli) → (product P Q).p ≡ ((product Q P).p + 2 * symplectic P Q) % 4
unfolding product symplectic
swapped-phase P Q =
    same-remainder 4 _ _ (dot Q.b P.a)
    ((Q.p + P.p + 2 * dot Q.b P.a) / 4 + (dot P.a Q.b + dot Q.a P.b) / 2)
    (omega (arith, dot-comm P.a Q.b, dot-comm Q.a P.b))

swapped : (P Q S : Pauli) → (product P Q).p ≡ S.p → (product Q P).a ≡ S.a → (product Q P).b ≡ S.b
    → product P Q ≡ S
unfolding product
swapped P Q S p a b = same_parts (product P Q) S p (xor_comm P.a Q.a ∙ a) (xor_comm P.b Q.b ∙ b)

pub commutes-zero : (P Q : Pauli) → commutes P Q ≡ true → symplectic P Q ≡ 0
unfolding commutes
commutes-zero P Q h = eqb-true (symplectic P Q) 0 h

pub anticommutes-one : (P Q : Pauli) → anticommutes P Q ≡ true → symplectic P Q ≡ 1
unfolding anticommutes commutes symplectic
anticommutes-one P Q =
    digit (λ x. not (eqb x 0) ≡ true → x ≡ 1) (λ h. absurd (false≢true h)) (λ h. refl)
    (dot P.a Q.b + dot Q.a P.b)

pub product-phase-lt : (P Q : Pauli) → (product P Q).p < 4
unfolding product
product-phase-lt P Q = mod-lt (P.p + Q.p + 2 * dot P.b Q.a) (omega arith)

-- Two Paulis that commute have one product.
pub commuting-product : (P Q : Pauli) → commutes P Q ≡ true → product P Q ≡ product Q P
commuting-product P Q h =
    swapped P Q (product Q P)
    (swapped-phase P Q
    ∙ rw (commutes-zero P Q h)
    (ap (λ (x : ℕ). x % 4) (omega arith) ∙ mod-eq_of_lt (product-phase-lt Q P))) refl refl

-- Two that anticommute have products that differ by the sign.
pub anticommuting-product : (P Q : Pauli) → anticommutes P Q ≡ true → product P Q ≡ negated (product Q P)
unfolding negated
anticommuting-product P Q h =
    swapped P Q (negated (product Q P)) (swapped-phase P Q ∙ rw (anticommutes-one P Q h)) refl refl

not-negated : (P Q : Pauli) → product P Q ≡ negated (product P Q) → ⊥
unfolding negated
not-negated P Q e = differ (product P Q).p (product-phase-lt P Q) (ap (λ (R : Pauli). R.p) e)
  where
    differ : (x : ℕ) → x < 4 → x ≡ (x + 2) % 4 → ⊥
    differ x h e = omega arith

-- So the count decides: it is even exactly where the two products are one, and odd exactly where they differ by the
-- sign.
pub commutes-decides : (P Q : Pauli) → (commutes P Q ≡ true) ↔ (product P Q ≡ product Q P)
unfolding anticommutes
commutes-decides P Q = (commuting-product P Q, go (commutes P Q) refl)
  where
    go : (c : Bool) → commutes P Q ≡ c → product P Q ≡ product Q P → commutes P Q ≡ true
    go true e same = e
    go false e same = absurd (not-negated Q P (sym same ∙ anticommuting-product P Q (ap not e)))

pub anticommutes-decides : (P Q : Pauli) → (anticommutes P Q ≡ true) ↔ (product P Q ≡ negated (product Q P))
unfolding anticommutes
anticommutes-decides P Q = (anticommuting-product P Q, go (commutes P Q) refl)
  where
    go : (c : Bool) → commutes P Q ≡ c → product P Q ≡ negated (product Q P) → anticommutes P Q ≡ true
    go true e differ = absurd (not-negated Q P (sym (commuting-product P Q e) ∙ differ))
    go false e differ = ap not e

odd-sum : (x y : ℕ) → not (eqb ((x % 2 + y % 2) % 2) 0) ≡ xor (not (eqb (x % 2) 0)) (not (eqb (y % 2) 0))
unfolding xor
odd-sum x y =
    digit (λ u. not (eqb ((u + y % 2) % 2) 0) ≡ xor (not (eqb u 0)) (not (eqb (y % 2) 0)))
    (digit (λ v. not (eqb ((0 + v) % 2) 0) ≡ xor false (not (eqb v 0))) refl refl y)
    (digit (λ v. not (eqb ((1 + v) % 2) 0) ≡ xor true (not (eqb v 0))) refl refl y) x

pub anticommutes-product : (R P Q : Pauli) → anticommutes R (product P Q) ≡ xor (anticommutes R P) (anticommutes R Q)
unfolding anticommutes commutes symplectic
anticommutes-product R P Q =
    ap (λ (x : ℕ). not (eqb x 0)) (symplectic-product R P Q)
    ∙ odd-sum (dot R.a P.b + dot P.a R.b) (dot R.a Q.b + dot Q.a R.b)

-- ---- weight

-- Twice the weight is the ones of a, of b and of their sum, and none of the three grows under xor beyond the sum of its
-- own.
pub weight-product-le : (P Q : Pauli) → weight (product P Q) ≤ weight P + weight Q
unfolding weight product
weight-product-le P Q =
    omega (
      arith,
      twice-or (bit_xor P.a Q.a) (bit_xor P.b Q.b),
      twice-or P.a P.b,
      twice-or Q.a Q.b,
      count_ones-xor_le P.a Q.a,
      count_ones-xor_le P.b Q.b,
      rw (← xor_swap P.a Q.a P.b Q.b) at (count_ones-xor_le (bit_xor P.a P.b) (bit_xor Q.a Q.b)),
    )
