-- The lines of several rows with one key, and the call for them.
use Rattle.refusals.specs.declared.Refusal.{Refusal}
use Rattle.std.specs.Prelude.{Result}
use mathlib.Core.List.{List, flat_map}
use Rattle.std.specs.Prelude.{ℕ}
use Rattle.pauli.specs.declared.Pauli.{Pauli}
use Rattle.sheet.specs.Text.{After, written}
use Rattle.code_record.specs.Record.{qubit_fault}
use Rattle.row_writer.specs.Lines.{row_line_text}

-- RULES, "The sheet": the lines of rows, by the byte before their `=`.
unfoldable pub rows_text : ℕ → ℕ → List Pauli → List ℕ
rows_text key n rows = flat_map (row_line_text key n) rows

-- RULES, "Calls and buffers": the lines of rows by themselves, with any key: 15 where n is not 2 to 24, then 17, then
-- the lines and their length.
unfoldable pub write_rows : ℕ → ℕ → List Pauli → List ℕ → After (Result ℕ Refusal)
write_rows key n rows buffer = written (qubit_fault n) (rows_text key n rows) buffer
