-- The line of the first generator, which is one line for every record.
use mathlib.Core.Path.{refl}
use Rattle.code_record.specs.Record.{generators_at}
use Rattle.code_record.proofs.Code.generators_at.Goals as goal

pub returns : goal.returns
unfolding generators_at
returns c = refl
