-- Rows that stand on lines one after the other.
use Rattle.std.specs.Prelude.{List, [], ◌∷◌, ℕ, zero, suc, ◌-◌, length}
use Prim.Native.String.{String}
use Rattle.pauli.specs.declared.Pauli.{Pauli}
use Rattle.code_record.specs.Record.{row_room, filled}
use Rattle.sheet.specs.Reader.{Parsed, got, stop, row_line}
use Rattle.row_reader.specs.Answers.{within_qubits}
use Rattle.gathered_rows.specs.declared.Gathered.{Gathered}

-- A line gives a row, and those behind it more; or it is off its form, and there are none. The bytes behind them too.
unfoldable pub in_turn : Parsed Pauli → (List ℕ → List Pauli × List ℕ) → List ℕ → List Pauli × List ℕ
in_turn (got row rest) next s = (row ∷ (next rest).0, (next rest).1)
in_turn (stop refusal) next s = ([], s)

-- So many lines at most. Which line of the sheet they are makes no difference, so each is taken as line 0.
unfoldable pub rows_in_turn : ℕ → String → ℕ → List ℕ → List Pauli × List ℕ
rows_in_turn zero key n s = ([], s)
rows_in_turn (suc most) key n s = in_turn (within_qubits n 0 (row_line key n 0) s) (rows_in_turn most key n) s

-- The rows in an array, and where their lines end.
abbrev pub gathered_as : List ℕ → List Pauli × List ℕ → Gathered
gathered_as s read = record {
  end = length s - length read.1;
  count = length read.0;
  rows = filled row_room read.0;
}

unfoldable pub gathered : ℕ → String → ℕ → List ℕ → Gathered
gathered most key n s = gathered_as s (rows_in_turn most key n s)
