-- The weights are tried from 2 on, and no lighter string is found.
use Rattle.letter_sums.proofs.Words.{NoneLighter}
use Rattle.search.proofs.lightest.Given as goal

abbrev pub invariant-loop-weight : goal.invariant-loop-weight
invariant-loop-weight l =
    NoneLighter l.first l.second l.qubits l.want l.shun l.weight
