-- Every definition of this layer and of those below it that computes, to be definitions at once where an example is
-- computed: a proof that says `unfolding definitions` unfolds all that the line below names.
use Rattle.sheet.specs.Definitions.{definitions as definitions-sheet}
use Rattle.stabilizer.specs.Group.{product_of, group, in_group_up_to_phase, row_in_group, member_sign}
use Rattle.stabilizer.specs.Checks.{first_fault, minus_identity, clash, dependence, generator_fault, group_fault}
use Rattle.stabilizer.specs.Canonical.{columns, column, first_one, pivot, cleared, reduced, reduces_to_identity}
use Rattle.stabilizer.specs.Canonical.{side_by_side, remainder_word}
use Rattle.stabilizer.specs.Canonical.{insert_by_pivot, added, canonical_generators, canonical_text, write_canonical}

unfoldable pub definitions : Unit {0}
unfolding product_of group in_group_up_to_phase row_in_group member_sign first_fault minus_identity clash dependence
    generator_fault group_fault columns column first_one pivot cleared reduced reduces_to_identity side_by_side
    remainder_word insert_by_pivot added canonical_generators canonical_text write_canonical definitions-sheet
definitions = tt
