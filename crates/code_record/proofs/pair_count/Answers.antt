-- The pairs: the difference that stops at 0.
use Rattle.std.proofs.Common.{rules}
use Rattle.code_record.specs.Record.{pair_count}
use Rattle.code_record.proofs.pair_count.Goals as goal

pub returns : goal.returns
unfolding pair_count
returns c = search rules
