-- The lines of the rows of a record, family by family, and the call for them.
use Rattle.refusals.specs.declared.Refusal.{Refusal}
use Rattle.std.specs.Prelude.{Result}
use Rattle.std.specs.Prelude.{List, ◌++◌, ℕ, ◌+◌, ◌*◌, min}
use Rattle.code_record.specs.declared.Code.{Code}
use Rattle.code_record.specs.Record.{row_room, pair_count, generators, logical_xs, logical_zs, qubit_fault}
use Rattle.sheet.specs.Text.{After, written}
use Rattle.sheet.specs.Writer.{row_lines}

-- RULES, "The sheet": the lines of the generators, of the X logicals and of the Z logicals.
unfoldable pub families_text : Code → List ℕ
families_text c =
    row_lines "g=" c.n (generators c) ++ row_lines "x=" c.n (logical_xs c) ++ row_lines "z=" c.n (logical_zs c)

-- How many lines these are, whatever the record.
unfoldable pub family_rows : ℕ → ℕ → ℕ
family_rows n r = min r row_room + 2 * min (pair_count n r) row_room

-- RULES, "Calls and buffers": these lines by themselves, of any record: 15 where n is not 2 to 24, then 17, then the
-- lines and their length.
unfoldable pub write_families : Code → List ℕ → After (Result ℕ Refusal)
write_families c buffer = written (qubit_fault c.n) (families_text c) buffer
