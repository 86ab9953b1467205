-- The rows added so far, and for the next one: what those before a place leave of it, the rows that it cleared, and
-- those that moved up behind its place.
use lib.ListN.{get_or}
use Rattle.pauli.specs.Product.{identity}
use Rattle.reduced_rows.specs.Rows.{rows_in}
use Rattle.reduced_rows.proofs.Rows.{value}
use Rattle.independent_rows.proofs.Placing.{Clearing, Moving}
use Rattle.independent_rows.proofs.Added.{Reducing, Added}
use Rattle.independent_rows.proofs.independent_rows.Given as goal

abbrev pub invariant-loop-place : goal.invariant-loop-place
invariant-loop-place l = Added l.n l.rows l.count l.place (value l.n l.place l.reduced)

abbrev pub invariant-loop-at : goal.invariant-loop-at
invariant-loop-at l = Reducing l.n (value l.n l.place l.reduced) l.place (get_or l.rows l.place identity) l.at l.left

abbrev pub invariant-loop-at-2 : goal.invariant-loop-at-2
invariant-loop-at-2 l =
    Clearing l.n l.left (rows_in (value l.n l.place l.initial.reduced)) l.place l.at (value l.n l.place l.reduced)

abbrev pub invariant-loop-at-3 : goal.invariant-loop-at-3
invariant-loop-at-3 l =
    Moving l.n l.left (rows_in (value l.n l.place l.initial.reduced)) l.place l.at (value l.n l.place l.reduced)

abbrev pub decreases-loop-at-3 : goal.decreases-loop-at-3
decreases-loop-at-3 l = l.at
