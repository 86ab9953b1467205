-- The mask so far is that of the rows from a place on.
use mathlib.Core.Path.{◌≡◌}
use Prim.Native.Nat.{◌≤◌}
use lib.ListN.{length, take, drop}
use Rattle.pauli.specs.Syndrome.{syndrome_mask}
use Rattle.syndrome_mask.proofs.syndrome_mask.Given as goal

abbrev pub invariant-loop-place : goal.invariant-loop-place
invariant-loop-place l =
    (l.place ≤ length (take l.count l.rows)) × (l.mask ≡ syndrome_mask (drop l.place (take l.count l.rows)) l.p)
