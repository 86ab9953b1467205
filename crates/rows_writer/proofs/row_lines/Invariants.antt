-- The slice holds the lines of the rows that were passed, and `end` is their length.
use Rattle.std.proofs.Common.{take}
use Rattle.sheet.proofs.Laid.{Holds}
use Rattle.rows_writer.specs.Rows.{rows_text}
use Rattle.rows_writer.proofs.row_lines.Given as goal

abbrev pub invariant-loop-row : goal.invariant-loop-row
invariant-loop-row l = Holds (rows_text l.key l.n (take l.row-index l.rows)) l.fn.out l.out l.end
