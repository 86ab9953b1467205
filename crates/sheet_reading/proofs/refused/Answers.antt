-- The empty record stands beside the refusal.
use Rattle.std.specs.Prelude.{Err}
use mathlib.Core.Path.{ap}
use Rattle.admission.specs.Admission.{refused_reading}
use Rattle.sheet_reading.proofs.refused.Goals as goal

pub returns : goal.returns
unfolding refused_reading
returns c =
    ap (λ code. record { answer = Err c.args.refusal; code = code }) c.empty.ensures
