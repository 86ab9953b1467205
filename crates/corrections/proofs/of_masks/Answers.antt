-- What was found is a string's masks, or there is none.
use Rattle.std.proofs.Common.{rules}
use Rattle.corrections.specs.Corrections.{of_masks}
use Rattle.corrections.proofs.of_masks.Goals as goal

pub returns : goal.returns
unfolding of_masks
returns c = search rules
