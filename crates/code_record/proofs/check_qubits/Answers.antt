-- The limits on n, tested as the range that has them.
use Rattle.std.proofs.Common.{arith}
use Rattle.std.proofs.lemmas.Bool.Decides.{nat_tests}
use Rattle.refusals.specs.Refusals.{refuse_if}
use Rattle.code_record.specs.Record.{qubit_fault, between}
use Rattle.code_record.proofs.check_qubits.Goals as goal

pub returns-then-contains : goal.returns-then-contains
unfolding qubit_fault between refuse_if
returns-then-contains c = grind (arith, nat_tests)

pub returns-else-contains : goal.returns-else-contains
unfolding qubit_fault between refuse_if
returns-else-contains c = grind (arith, nat_tests)
