-- Every definition of letters, signs and lists that computes, to be unfolded at once where an example is computed: a
-- proof that says `unfolding definitions` unfolds all that is named below.
use Rattle.letters.specs.Lists.{first_of, any_of, all_of, passing, read_byte, bytes}
use Rattle.letters.specs.Letters.{letter_at, struck_letter, read_letter, read_sign}

unfoldable pub definitions : Unit {0}
unfolding first_of any_of all_of passing read_byte bytes letter_at struck_letter read_letter read_sign
definitions = tt
