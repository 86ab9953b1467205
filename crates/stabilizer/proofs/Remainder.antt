-- What rows leave of a Pauli, phase aside, is additive, whatever the rows: whether a row clears it is told by a column,
-- and columns add up, so that clearing takes sums of masks to sums of masks. As one number it is 0 exactly where both
-- masks are.
use mathlib.Core.Bool.{Bool, true, false, cond, xor, ◌&&◌}
use mathlib.Core.List.{List, [], ◌∷◌}
use mathlib.Core.Path.{◌≡◌, refl, ap, ap₂, sym, ◌∙◌}
use Prim.Native.Nat.{ℕ, ◌+◌, ◌*◌, ◌%◌, ◌^◌, ◌<◌}
use native.Mathlib.Nat.{mod-lt, mod-eq_of_lt, lt_of_lt_of_le, pow-le-pow_right}
use native.Mathlib.Omega.{arith}
use borrow.Author.Tests.{eqb-true, eq-eqb, ltb-true}
use lib.Bits.{bit_xor, xor_block, xor_mod, xor_lt, xor_comm, xor_self, xor_zero_r}
use lib.Dec.{eqb, ltb}
use Rattle.pauli.specs.declared.Pauli.{Pauli}
use Rattle.pauli.specs.Product.{identity, product, same_masks}
use Rattle.pauli.proofs.Masks.{digit, xor_assoc, xor_swap}
use Rattle.code_record.specs.Record.{on_qubits}
use Rattle.code_record.proofs.Limits.{on-qubits, both}
use Rattle.stabilizer.specs.Canonical.{column, pivot, cleared, reduced, reduces_to_identity, side_by_side}
use Rattle.stabilizer.specs.Canonical.{remainder_word, canonical_generators}
use Rattle.stabilizer.specs.Statements.{RemainderIsAdditive, RemainderTellsMembers}
use Rattle.stabilizer.proofs.All.{All, all_map, all-of}
use Rattle.stabilizer.proofs.Columns.{column-product, column-masks, column-lt}
use Rattle.stabilizer.proofs.Echelon.{cleared-cases}
use Rattle.stabilizer.proofs.Reduction.{canonical-on-qubits}
use Rattle.stabilizer.proofs.Tests.{same_tests}
use Rattle.stabilizer.proofs.Theorems.{reduction_decides-membership}

-- ---- sums of masks

-- R has the masks of the product of P and Q.
pub record Sums (P Q R : Pauli) : Type 0 where
  pub a : R.a ≡ bit_xor P.a Q.a
  pub b : R.b ≡ bit_xor P.b Q.b

-- A mask to which h is added where a test says so; the tests add up as the masks do.
cleared-sum : (s t : Bool) (x y h : ℕ)
    → cond (xor s t) (bit_xor (bit_xor x y) h) (bit_xor x y) ≡ bit_xor (cond s (bit_xor x h) x) (cond t (bit_xor y h) y)
unfolding xor
cleared-sum true true x y h =
    sym (xor_swap x h y h ∙ ap (bit_xor (bit_xor x y)) (xor_self h) ∙ xor_zero_r (bit_xor x y))
cleared-sum true false x y h = xor_assoc x y h ∙ ap (bit_xor x) (xor_comm y h) ∙ sym (xor_assoc x h y)
cleared-sum false true x y h = xor_assoc x y h
cleared-sum false false x y h = refl

module _ (n : ℕ) where
  abbrev clears : Pauli → Pauli → Bool
  clears h P = eqb (column n P (pivot n h)) 1

  cleared-masks : (h P : Pauli)
      → ((cleared n h P).a ≡ cond (clears h P) (bit_xor P.a h.a) P.a)
      × ((cleared n h P).b ≡ cond (clears h P) (bit_xor P.b h.b) P.b)
  unfolding cleared product
  cleared-masks h P = go (clears h P)
    where
      go : (t : Bool)
          → ((cond t (product P h) P).a ≡ cond t (bit_xor P.a h.a) P.a)
          × ((cond t (product P h) P).b ≡ cond t (bit_xor P.b h.b) P.b)
      go true = (refl, refl)
      go false = (refl, refl)

  clears-sum : (h P Q R : Pauli) → Sums P Q R → clears h R ≡ xor (clears h P) (clears h Q)
  unfolding product xor
  clears-sum h P Q R sums =
      let c = pivot n h in
      ap (λ (x : ℕ). eqb x 1) (column-masks n R (product P Q) sums.a sums.b c ∙ column-product n P Q c)
      ∙ odd (column n P c) (column n Q c) (column-lt n P c) (column-lt n Q c)
    where
      odd : (x y : ℕ) → x < 2 → y < 2 → eqb ((x + y) % 2) 1 ≡ xor (eqb x 1) (eqb y 1)
      odd x y hx hy =
          rw (← mod-eq_of_lt hx, ← mod-eq_of_lt hy)
          (digit (λ (u : ℕ). eqb ((u + y % 2) % 2) 1 ≡ xor (eqb u 1) (eqb (y % 2) 1))
          (digit (λ (v : ℕ). eqb ((0 + v) % 2) 1 ≡ xor false (eqb v 1)) refl refl y)
          (digit (λ (v : ℕ). eqb ((1 + v) % 2) 1 ≡ xor true (eqb v 1)) refl refl y) x)

  cleared-sums : (h P Q R : Pauli) → Sums P Q R → Sums (cleared n h P) (cleared n h Q) (cleared n h R)
  cleared-sums h P Q R sums =
      let told = clears-sum h P Q R sums in
      let p = cleared-masks h P in
      let q = cleared-masks h Q in
      let r = cleared-masks h R in
      record {
        a = r.0
            ∙ ap₂ (λ t (m : ℕ). cond t (bit_xor m h.a) m) told sums.a
            ∙ cleared-sum (clears h P) (clears h Q) P.a Q.a h.a ∙ ap₂ bit_xor (sym p.0) (sym q.0);
        b = r.1
            ∙ ap₂ (λ t (m : ℕ). cond t (bit_xor m h.b) m) told sums.b
            ∙ cleared-sum (clears h P) (clears h Q) P.b Q.b h.b ∙ ap₂ bit_xor (sym p.1) (sym q.1);
      }

  pub reduced-sums : (hs : List Pauli) (P Q R : Pauli) → Sums P Q R
      → Sums (reduced n hs P) (reduced n hs Q) (reduced n hs R)
  unfolding reduced
  reduced-sums [] P Q R sums = sums
  reduced-sums (h ∷ hs) P Q R sums =
      reduced-sums hs (cleared n h P) (cleared n h Q) (cleared n h R) (cleared-sums h P Q R sums)

-- ---- two masks as one number

in_block : (a b : ℕ) → side_by_side a b ≡ b * 2 ^ 32 + a % 2 ^ 32
unfolding side_by_side
in_block a b = omega arith

pub side-by-side-sums : (a b c d : ℕ)
    → side_by_side (bit_xor a c) (bit_xor b d) ≡ bit_xor (side_by_side a b) (side_by_side c d)
side-by-side-sums a b c d =
    in_block (bit_xor a c) (bit_xor b d) ∙ ap (λ (x : ℕ). bit_xor b d * 2 ^ 32 + x) (xor_mod a c 32)
    ∙ sym (ap₂ bit_xor (in_block a b) (in_block c d)
    ∙ xor_block 32 b d (a % 2 ^ 32) (c % 2 ^ 32) (mod-lt a (omega arith)) (mod-lt c (omega arith)))

side-by-side-zero : (P : Pauli) → P.a < 2 ^ 32 → eqb (side_by_side P.a P.b) 0 ≡ same_masks P identity
unfolding same_masks side_by_side
side-by-side-zero P fits =
    same_tests (eqb (side_by_side P.a P.b) 0) (same_masks P identity) (
      λ e. let z = eqb-true (side_by_side P.a P.b) 0 e in
          ap₂ ◌&&◌ (eq-eqb P.a 0 (omega arith)) (eq-eqb P.b 0 (omega arith)),
      λ e. let z = both (eqb P.a 0) (eqb P.b 0) e in
          eq-eqb (side_by_side P.a P.b) 0 (omega (arith, eqb-true P.a 0 z.0, eqb-true P.b 0 z.1)),
    )

-- ---- what is left as one number

remainder-sums : (n : ℕ) (hs : List Pauli) (P Q R : Pauli) → Sums P Q R
    → remainder_word n hs R ≡ bit_xor (remainder_word n hs P) (remainder_word n hs Q)
unfolding remainder_word
remainder-sums n hs P Q R sums =
    let left = reduced-sums n hs P Q R sums in
    ap₂ side_by_side left.a left.b
    ∙ side-by-side-sums (reduced n hs P).a (reduced n hs P).b (reduced n hs Q).a (reduced n hs Q).b

pub remainder_is-additive : RemainderIsAdditive
unfolding product
remainder_is-additive n hs P Q = remainder-sums n hs P Q (product P Q) (record { a = refl; b = refl })

-- ---- members

abbrev Fits : Pauli → Type 0
Fits P = P.a < 2 ^ 32

reduced-fits : (n : ℕ) (hs : List Pauli) → All Fits hs → (P : Pauli) → Fits P → Fits (reduced n hs P)
unfolding reduced product
reduced-fits n [] all P fits = fits
reduced-fits n (h ∷ hs) all P fits =
    reduced-fits n hs all.1 (cleared n h P)
    (cleared-cases n Fits h P (λ one. xor_lt 32 P.a h.a fits all.0) (λ none. fits))

reduces : (n : ℕ) (hs : List Pauli) → All Fits hs → (P : Pauli) → Fits P
    → eqb (remainder_word n hs P) 0 ≡ reduces_to_identity n hs P
unfolding remainder_word reduces_to_identity
reduces n hs all P fits = side-by-side-zero (reduced n hs P) (reduced-fits n hs all P fits)

pub remainder_tells-members : RemainderTellsMembers
remainder_tells-members = record {
  reduces = λ n hs fit P fits.
      reduces n hs (all_map (λ h. ltb-true h.a (2 ^ 32)) hs ((all-of (λ h. ltb h.a (2 ^ 32)) hs).0 fit)) P fits;
  canonical = λ n rows few on P fits.
      reduces n (canonical_generators n rows)
      (all_map (λ h q. lt_of_lt_of_le (on-qubits n h q).0 (pow-le-pow_right {n = 2} (omega arith) few))
      (canonical_generators n rows) (canonical-on-qubits n rows ((all-of (on_qubits n) rows).0 on)))
      P fits
      ∙ reduction_decides-membership.canonical n rows on P;
}
