-- One after the other the lowest ones are taken away: what is left to take away gives the same from here on.
use Rattle.std.proofs.Common.{◌≡◌, ◌-◌}
use Rattle.refuting_pair.specs.LowestOnes.{without_lowest}
use Rattle.refuting_pair.proofs.without_lowest.Given as goal

abbrev pub invariant-loop : goal.invariant-loop
invariant-loop l = without_lowest (l.count - l.counter) l.kept ≡ without_lowest l.count l.mask
