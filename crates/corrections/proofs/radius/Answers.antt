-- Without a distance the difference stops at 0.
use Rattle.std.proofs.Common.{arith}
use Rattle.code_record.specs.Record.{radius}
use Rattle.corrections.proofs.radius.Goals as goal

pub returns : goal.returns
unfolding radius
returns c = omega (arith, c.saturating_sub.ensures)
