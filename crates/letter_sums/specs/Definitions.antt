-- Every definition of the search and of the crates below it that computes, to be unfolded at once where an example is
-- computed: a proof that says `unfolding definitions` unfolds all that is named below.
use Rattle.pauli.specs.Definitions.{definitions as definitions-pauli}
use Rattle.letter_sums.specs.Sums.{word_at, sum_of, sums_to, passes, earliest_of, earliest_up_to, found_as, earliest_by}

unfoldable pub definitions : Unit {0}
unfolding word_at sum_of sums_to passes earliest_of earliest_up_to found_as earliest_by definitions-pauli
definitions = tt
