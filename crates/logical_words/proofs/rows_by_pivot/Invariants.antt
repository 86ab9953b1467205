-- The rows one by one: each is added to the sum of the column in which it begins.
use Rattle.reduced_rows.specs.Rows.{rows_in}
use Rattle.logical_words.proofs.RowSums.{SumsFrom}
use Rattle.logical_words.proofs.rows_by_pivot.Given as goal

abbrev pub invariant-loop-row : goal.invariant-loop-row
invariant-loop-row l = SumsFrom (rows_in l.fn.rows) l.row-index l.sums
