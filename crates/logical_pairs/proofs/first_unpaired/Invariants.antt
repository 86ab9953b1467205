-- The first logical from a place on that pairs wrongly is the first of all; and those that were tried with the logical
-- there pair rightly with it.
use mathlib.Core.Path.{◌≡◌}
use Prim.Native.Nat.{◌*◌}
use lib.ListN.{take}
use Rattle.admission.specs.Logicals.{logicals, pairs_wrongly}
use Rattle.logical_pairs.specs.FirstPlace.{unpaired_at, first_unpaired}
use Rattle.logical_pairs.proofs.LogicalPlaces.{Logical}
use Rattle.logical_pairs.proofs.Places.{PlaceFrom}
use Rattle.logical_pairs.proofs.Pairs.{WrongFrom}
use Rattle.logical_pairs.proofs.first_unpaired.Given as goal

abbrev pub invariant-loop-place : goal.invariant-loop-place
invariant-loop-place l = PlaceFrom (unpaired_at l.code) l.place (2 * l.xs) ≡ first_unpaired l.code

abbrev pub invariant-loop-earlier : goal.invariant-loop-earlier
invariant-loop-earlier l =
    Logical l.code l.pairs l.xs l.place l.p
    × (WrongFrom l.pairs l.place l.earlier (logicals l.code) l.p
    ≡ pairs_wrongly l.pairs l.place 0 (take l.place (logicals l.code)) l.p)
