-- The reading, as numbers.
use mathlib.Core.Path.{ap, ◌∙◌}
use Rattle.rack_answers.specs.Answers.{sheet_answer}
use Rattle.rack.specs.Calls.{read_call}
use Rattle.rack.proofs.reinoften_read_sheet.Goals as goal

pub returns : goal.returns
unfolding read_call
returns c = c.from.ensures ∙ ap sheet_answer c.read_sheet.ensures
