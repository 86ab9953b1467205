-- Whether a Pauli is a row of n qubits: the masks are tried first, then the phase.
use Rattle.std.proofs.Common.{arith}
use Rattle.std.proofs.lemmas.Bool.Decides.{nat_tests}
use Rattle.code_record.specs.Record.{is_row}
use Rattle.record_limits.proofs.is_row.Goals as goal

pub returns-then-on_qubits : goal.returns-then-on_qubits
unfolding is_row
returns-then-on_qubits c = grind (arith, nat_tests)

pub returns-else-on_qubits : goal.returns-else-on_qubits
unfolding is_row
returns-else-on_qubits c = grind (arith, nat_tests)
