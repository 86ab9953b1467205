-- The rows that such a value has, and the value that has these rows, with +I in the places behind them.
use Rattle.std.specs.Prelude.{List, ℕ, length, take}
use Rattle.pauli.specs.declared.Pauli.{Pauli}
use Rattle.code_record.specs.Record.{row_room, filled}
use Rattle.reduced_rows.specs.declared.ReducedRows.{ReducedRows}

unfoldable pub rows_in : ReducedRows → List Pauli
rows_in hs = take hs.count hs.rows

unfoldable pub reduced_of : ℕ → List Pauli → ReducedRows
reduced_of n rows = record { n = n; count = length rows; rows = filled row_room rows }
