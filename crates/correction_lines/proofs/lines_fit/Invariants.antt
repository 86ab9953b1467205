use Rattle.std.proofs.Common.{length, ◌-◌}
use Rattle.correction_lines.proofs.Fits.{Left}
use Rattle.correction_lines.proofs.lines_fit.Given as goal

abbrev pub invariant-loop-place : goal.invariant-loop-place
invariant-loop-place l = Left l.words l.t l.r l.syndromes l.room l.place l.left

abbrev pub decreases-loop-place : goal.decreases-loop-place
decreases-loop-place l = length l.syndromes - l.place
