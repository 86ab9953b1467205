-- Rows that are +I, told by their bits.
use mathlib.Core.Bool.{true, ◌&&◌}
use mathlib.Core.List.{List, [], ◌∷◌}
use mathlib.Core.Path.{◌≡◌, refl, ap, sym, ◌∙◌}
use Prim.Native.Nat.{ℕ, suc, ◌%◌, ◌<◌, ◌≤◌}
use native.Mathlib.Omega.{arith}
use Rattle.std.proofs.lemmas.Bool.Decides.{nat_tests}
use borrow.Author.Tests.{eq-eqb}
use lib.Bits.{bit_or, or_add_and, and_le_l, and_le_r}
use lib.Dec.{eqb}
use lib.ListN.{length, drop, get_or, drop_of_length-le}
use lib.Seq.{drop-cons}
use Rattle.pauli.specs.declared.Pauli.{Pauli}
use Rattle.letters.specs.Lists.{all_of}
use Rattle.pauli.specs.Product.{identity, same_pauli, same_masks, has_phase}
use Rattle.code_record.proofs.Limits.{all_first}
use Rattle.unused_rows.specs.Unused.{are_identities, all_bits}

pub same-identity : (P : Pauli) → same_pauli identity P ≡ (eqb (P.p % 4) 0 && (eqb P.a 0 && eqb P.b 0))
unfolding same_pauli has_phase same_masks
same-identity P = grind (arith, nat_tests)

-- ---- rows without a bit

pub or-none : (a b : ℕ) → bit_or a b ≡ 0 → (a ≡ 0) × (b ≡ 0)
or-none a b e = omega (arith, or_add_and a b, and_le_l a b, and_le_r a b)

pub no_bits : (rows : List Pauli) → all_bits rows ≡ 0 → are_identities rows ≡ true
unfolding all_bits all_of
no_bits [] e = refl
no_bits (P ∷ rows) e =
    let b = or-none (bit_or (bit_or (all_bits rows) P.p) P.a) P.b e in
    let a = or-none (bit_or (all_bits rows) P.p) P.a b.0 in
    let p = or-none (all_bits rows) P.p a.0 in
    let phase : P.p % 4 ≡ 0 = omega (arith, p.1) in
    let own : same_pauli identity P ≡ true =
    same-identity P ∙ rw (eq-eqb (P.p % 4) 0 phase, eq-eqb P.a 0 a.1, eq-eqb P.b 0 b.1) in
    all_first (same_pauli identity) P rows ∙ ap (λ t. t && are_identities rows) own ∙ no_bits rows p.0

-- ---- the rows from a place on

pub no-bits-behind : (rows : List Pauli) (place : ℕ) → length rows ≤ place → 0 ≡ all_bits (drop place rows)
unfolding all_bits
no-bits-behind rows place end = ap all_bits (sym (drop_of_length-le rows end))

pub bits-from : (rows : List Pauli) (place : ℕ) → place < length rows → {bits next : ℕ} → next ≡ suc place
    → bits ≡ all_bits (drop next rows)
    → let P = get_or rows place identity in
    bit_or (bit_or (bit_or bits P.p) P.a) P.b ≡ all_bits (drop place rows)
unfolding all_bits
bits-from rows place inside follows e = rw (e, follows, drop-cons rows place identity)
