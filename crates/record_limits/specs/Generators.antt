-- The limits of a record's generators, for what is said of them by themselves.
use Rattle.std.specs.Prelude.{Bool, ◌&&◌, List, ℕ, take}
use Rattle.pauli.specs.declared.Pauli.{Pauli}
use Rattle.letters.specs.Lists.{all_of}
use Rattle.code_record.specs.Record.{most_qubits, most_generators, between, is_row}

-- RULES, "The record": n and r are within their ranges, and the first r rows are rows of n qubits.
unfoldable pub generators_within : ℕ → ℕ → List Pauli → Bool
generators_within n r g = between 2 most_qubits n && between 1 (most_generators n) r && all_of (is_row n) (take r g)
