-- The generators that there are, and twice the pairs of logicals that there are.
use Rattle.families_writer.specs.Families.{family_rows}
use Rattle.families_writer.proofs.row_count.Goals as goal

pub returns : goal.returns
unfolding family_rows
returns c = cc
