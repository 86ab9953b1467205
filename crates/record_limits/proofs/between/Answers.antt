-- Whether a number is between two bounds, tested as the range that has them.
use Rattle.std.proofs.Common.{arith}
use Rattle.std.proofs.lemmas.Bool.Decides.{nat_tests}
use Rattle.code_record.specs.Record.{between}
use Rattle.record_limits.proofs.between.Goals as goal

pub returns : goal.returns
unfolding between
returns c = grind (arith, nat_tests)
