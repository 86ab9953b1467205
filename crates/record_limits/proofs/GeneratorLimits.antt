-- What the ranges of a record's numbers and the limits of generators say, each as a fact; and a record within its
-- limits has its generators within theirs.
use mathlib.Core.Bool.{true, ◌&&◌}
use mathlib.Core.List.{List}
use mathlib.Core.Path.{◌≡◌}
use Prim.Native.Nat.{ℕ, ◌<◌, ◌≤◌}
use native.Mathlib.Omega.{arith}
use Rattle.std.proofs.lemmas.Bool.Decides.{nat_tests}
use lib.ListN.{take}
use Rattle.pauli.specs.declared.Pauli.{Pauli}
use Rattle.letters.specs.Lists.{all_of}
use Rattle.code_record.specs.declared.Code.{Code}
use Rattle.code_record.specs.Record.{row_room, most_qubits, most_distance, most_generators, pair_count, between}
use Rattle.code_record.specs.Record.{is_row, are_rows, within_limits}
use Rattle.code_record.proofs.Limits.{both, between-bounds, tests}
use Rattle.unused_rows.proofs.InTurn.{all_hold}
use Rattle.record_limits.specs.Generators.{generators_within}

pub counts-say : (n r : ℕ) → (between 2 most_qubits n && between 1 (most_generators n) r) ≡ true
    → (n ≤ most_qubits) × (r ≤ row_room) × (pair_count n r ≤ row_room)
unfolding between most_generators pair_count
counts-say n r h = grind (arith, nat_tests)

pub numbers-say : (c : Code)
    → (between 2 most_qubits c.n && between 1 (most_generators c.n) c.r && between 1 most_distance c.d) ≡ true
    → (c.n ≤ most_qubits) × (c.r ≤ row_room) × (pair_count c.n c.r ≤ row_room)
numbers-say c h = counts-say c.n c.r (both _ _ h).0

pub record GeneratorLimits (n r : ℕ) (g : List Pauli) : Type 0 where
  pub qubits : (2 ≤ n) × (n ≤ most_qubits)
  pub count : (1 ≤ r) × (r < n)
  pub rows : all_of (is_row n) (take r g) ≡ true

pub generator-limits : (n r : ℕ) (g : List Pauli) → generators_within n r g ≡ true → GeneratorLimits n r g
unfolding generators_within most_generators
generator-limits n r g within =
    let numbers = both _ _ within in
    let each = both _ _ numbers.0 in
    let q = between-bounds _ _ _ each.0 in
    let c = between-bounds _ _ _ each.1 in
    record { qubits = q; count = omega arith; rows = numbers.1 }

pub record-generators : (c : Code) → within_limits c ≡ true → generators_within c.n c.r c.g ≡ true
unfolding generators_within are_rows
record-generators c within =
    let t = tests c within in all_hold t.qubits t.generator_count (both _ _ t.generator_rows).0
