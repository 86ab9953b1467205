use Rattle.std.proofs.Common.{length, ◌-◌}
use Rattle.corrections_writer.proofs.Answered.{Answered}
use Rattle.corrections_writer.proofs.correction_lines.Given as goal

abbrev pub invariant-loop-place : goal.invariant-loop-place
invariant-loop-place l = Answered l.words l.t l.r l.syndromes l.fn.out l.place l.out l.end

abbrev pub decreases-loop-place : goal.decreases-loop-place
decreases-loop-place l = length l.syndromes - l.place
