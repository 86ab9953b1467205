-- What the rows from here on leave of what is left is what all rows leave of the row.
use mathlib.Core.Path.{◌≡◌}
use lib.ListN.{drop}
use Rattle.stabilizer.specs.Canonical.{reduced}
use Rattle.reduced_rows.specs.Rows.{rows_in}
use Rattle.reduced_rows.proofs.ReducedRows.reduce.Given as goal

abbrev pub invariant-loop-place : goal.invariant-loop-place
invariant-loop-place l =
    reduced l.self.n (drop l.place (rows_in l.self)) l.left ≡ reduced l.self.n (rows_in l.self) l.fn.p
