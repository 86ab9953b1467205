-- Changes of a row.
use Rattle.std.specs.Prelude.{ℕ, ◌+◌, ◌%◌}
use Rattle.std.specs.Int.Bits.{bit_or}
use Rattle.pauli.specs.declared.Pauli.{Pauli}

abbrev pub turned_row : Pauli → ℕ → Pauli
turned_row row more = record { p = row.p % 4 + more % 4294967293; a = row.a; b = row.b }

abbrev pub with_bits : Pauli → ℕ → ℕ → Pauli
with_bits row a b = record { p = row.p; a = bit_or row.a a; b = bit_or row.b b }
