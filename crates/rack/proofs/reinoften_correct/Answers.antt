-- The correction by value, as numbers.
use mathlib.Core.Path.{ap, ◌∙◌}
use Rattle.rack_answers.specs.Answers.{correction_answer}
use Rattle.rack.specs.Calls.{correct_call}
use Rattle.rack.proofs.reinoften_correct.Goals as goal

pub returns : goal.returns
unfolding correct_call
returns c = c.from.ensures ∙ ap correction_answer c.decode_mask.ensures
