use Rattle.std.specs.Prelude.{None}
use Rattle.std.proofs.Common.{◌≡◌, ◌≤◌}
use Rattle.letter_sums.specs.Sums.{earliest_of}
use Rattle.letter_sums.proofs.Words.{NoneBelow}
use Rattle.search.proofs.+completion.Given as goal

abbrev pub decreases-completion : goal.decreases-completion
decreases-completion l = l.weight

abbrev pub invariant-loop-right : goal.invariant-loop-right
invariant-loop-right l =
    earliest_of l.first l.second l.right l.weight l.want l.shun ≡ None

abbrev pub invariant-loop-letter : goal.invariant-loop-letter
invariant-loop-letter l =
    (l.letter ≤ 3) × NoneBelow l.first l.second l.right l.letters l.want l.shun l.letter
