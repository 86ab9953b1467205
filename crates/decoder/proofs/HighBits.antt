-- Mask bits above qubit n change no syndrome: no row has such bits, so the qubits that both count are those up to n.
use mathlib.Core.Bool.{not}
use mathlib.Core.List.{List, [], ◌∷◌}
use mathlib.Core.Path.{◌≡◌, refl, ap, ap₂, sym, ◌∙◌}
use Prim.Native.Nat.{ℕ, ◌+◌, ◌%◌, ◌^◌, ◌<◌}
use native.Mathlib.Nat.{mod-eq_of_lt}
use native.Mathlib.Omega.{arith}
use lib.Bits.{bit_and, and_mod, and_le_l}
use lib.Dec.{eqb}
use Rattle.pauli.specs.declared.Pauli.{Pauli}
use Rattle.pauli.specs.Masks.{count_ones, dot}
use Rattle.pauli.specs.Product.{symplectic, commutes, anticommutes}
use Rattle.pauli.specs.Syndrome.{syndrome}
use Rattle.pauli.proofs.Masks.{dot-comm}
use Rattle.pauli.proofs.Product.{pauli}
use Rattle.code_record.specs.Record.{generators, is_row}
use Rattle.code_record.proofs.Limits.{limits, on-qubits}
use Rattle.stabilizer.proofs.All.{all-of}
use Rattle.stabilizer.proofs.Independent.{Rows, row-parts}
use Rattle.decoder.specs.Statements.{HighBitsChangeNothing}

dot-by-low-bits : (n a b : ℕ) → a < 2 ^ n → dot a b ≡ dot a (b % 2 ^ n)
unfolding dot
dot-by-low-bits n a b h =
    ap count_ones
    (sym (mod-eq_of_lt (omega (arith, and_le_l a b))) ∙ and_mod a b n
    ∙ ap (λ x. bit_and x (b % 2 ^ n)) (mod-eq_of_lt h))

-- The Pauli without its mask bits above qubit n.
low : ℕ → Pauli → Pauli
low n P = pauli P.p (P.a % 2 ^ n) (P.b % 2 ^ n)

anticommutes-by-low-bits : (n : ℕ) (g P : Pauli) → g.a < 2 ^ n → g.b < 2 ^ n
    → anticommutes g P ≡ anticommutes g (low n P)
unfolding anticommutes commutes symplectic low
anticommutes-by-low-bits n g P ha hb =
    ap₂ (λ x y. not (eqb ((x + y) % 2) 0)) (dot-by-low-bits n g.a P.b ha)
    (dot-comm P.a g.b ∙ dot-by-low-bits n g.b P.a hb ∙ dot-comm g.b (P.a % 2 ^ n))

syndrome-by-low-bits : (n : ℕ) (rows : List Pauli) (P : Pauli) → Rows n rows → syndrome rows P ≡ syndrome rows (low n P)
unfolding syndrome
syndrome-by-low-bits n [] P rows = refl
syndrome-by-low-bits n (g ∷ gs) P rows =
    let q = on-qubits n g (row-parts n g rows.0).0 in
    ap₂ ◌∷◌ (anticommutes-by-low-bits n g P q.0 q.1) (syndrome-by-low-bits n gs P rows.1)

pub high-bits-change-nothing : HighBitsChangeNothing
unfolding low generators
high-bits-change-nothing c P within =
    let rows = (all-of (is_row c.n) (generators c)).0 (limits c within).generator_rows.used in
    syndrome-by-low-bits c.n (generators c) P rows
