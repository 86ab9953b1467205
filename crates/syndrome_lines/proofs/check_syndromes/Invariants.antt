use Prim.Native.Nat.{◌-◌}
use lib.ListN.{length}
use Rattle.syndrome_lines.proofs.Lines.{Checked}
use Rattle.syndrome_lines.proofs.check_syndromes.Given as goal

abbrev pub invariant-loop-end : goal.invariant-loop-end
invariant-loop-end l = Checked l.r l.s l.end l.count

abbrev pub decreases-loop-end : goal.decreases-loop-end
decreases-loop-end l = length l.s - l.end
