-- Whether a Pauli has no bit above qubit n: the two masks are tried in turn.
use Rattle.std.proofs.Common.{arith}
use Rattle.std.proofs.lemmas.Bool.Decides.{nat_tests}
use Rattle.code_record.specs.Record.{on_qubits}
use Rattle.record_limits.proofs.RowLimits.{shifted_one}
use Rattle.record_limits.proofs.on_qubits.Goals as goal

pub returns-then-p-end : goal.returns-then-p-end
unfolding on_qubits
returns-then-p-end c = let end = shifted_one c.args.n c.requires in grind (arith, nat_tests)

pub returns-else-p-end : goal.returns-else-p-end
unfolding on_qubits
returns-else-p-end c = let end = shifted_one c.args.n c.requires in grind (arith, nat_tests)
