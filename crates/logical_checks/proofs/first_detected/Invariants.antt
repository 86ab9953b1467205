-- What 9 finds from a logical on is what it finds from the beginning; and the generators that were tried commute with
-- the logical here.
use Rattle.pauli.specs.Product.{anticommutes}
use Rattle.commutation.proofs.AnyRow.{Tried}
use Rattle.logical_pairs.proofs.LogicalPlaces.{Logical}
use Rattle.logical_checks.proofs.Detected.{Within, Nine}
use Rattle.logical_checks.proofs.first_detected.Given as goal

abbrev pub invariant-loop-place : goal.invariant-loop-place
invariant-loop-place l = Within l.code l.pairs × Nine l.code l.pairs l.place

abbrev pub invariant-loop-row : goal.invariant-loop-row
invariant-loop-row l =
    Within l.code l.pairs
    × Logical l.code l.pairs l.pairs l.place l.p
    × Tried (anticommutes l.p) l.code.g l.code.r l.row
