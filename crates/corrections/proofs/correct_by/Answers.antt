-- What the search found, as a correction.
use Rattle.std.proofs.Common.{ap, ◌∙◌}
use Rattle.corrections.specs.Corrections.{of_masks, correction_by}
use Rattle.corrections.proofs.correct_by.Goals as goal

pub returns : goal.returns
unfolding correction_by
returns c = c.of_masks.ensures ∙ ap of_masks c.earliest.ensures
