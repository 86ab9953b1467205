-- Every definition of the refusals and of the crates below them that computes, to be unfolded at once where an example
-- is computed: a proof that says `unfolding definitions` unfolds all that is named below.
use Rattle.pauli.specs.Definitions.{definitions as definitions-pauli}
use Rattle.refusals.specs.Refusals.{refuse_if, ◌then◌}

unfoldable pub definitions : Unit {0}
unfolding refuse_if ◌then◌ definitions-pauli
definitions = tt
