-- The answer of the call below, as numbers.
use mathlib.Core.Path.{ap, ◌∙◌}
use lib.ListN.{length}
use Rattle.stabilizer.specs.Canonical.{write_canonical}
use Rattle.rack_answers.specs.Answers.{written_answer}
use Rattle.rack.specs.Calls.{in_numbers, canonical_call}
use Rattle.rack.proofs.Lengths.{length-written}
use Rattle.rack.proofs.reinoften_canonical.Goals as goal

pub shape_of-out : goal.shape_of-out
unfolding write_canonical
shape_of-out c =
    ap length c.write_canonical.ensures.out_after ∙ length-written _ _ _

pub returns : goal.returns
unfolding canonical_call in_numbers
returns c =
    let made = c.write_canonical.ensures in
    record { value = c.from.ensures ∙ ap written_answer made.value; out_after = made.out_after }
