use Rattle.std.proofs.Common.{ℕ, ◌<◌}
use Rattle.letter_sums.proofs.Words.{PassedOver}
use Rattle.search.proofs.lone.Given as goal

abbrev pub invariant-loop-place : goal.invariant-loop-place
invariant-loop-place l = (j : ℕ) → j < l.place → PassedOver l.first l.second l.want l.shun j
