-- The digits that were passed say the number.
use Rattle.std.proofs.Common.{◌≡◌, ◌%◌}
use lib.ListN.{take}
use Rattle.test_cases.specs.Cases.{said}
use Rattle.test_cases.proofs.number.Given as goal

abbrev pub invariant-loop-digit : goal.invariant-loop-digit
invariant-loop-digit l = l.number ≡ said (take l.digit-index l.digits) % 1000000
