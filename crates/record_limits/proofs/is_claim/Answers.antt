-- Whether a Pauli may be w: the masks are tried first, then the sign.
use Rattle.std.proofs.Common.{arith}
use Rattle.std.proofs.lemmas.Bool.Decides.{nat_tests}
use Rattle.code_record.specs.Record.{is_claim}
use Rattle.record_limits.proofs.is_claim.Goals as goal

pub returns-then-on_qubits : goal.returns-then-on_qubits
unfolding is_claim
returns-then-on_qubits c = grind (arith, nat_tests)

pub returns-else-on_qubits : goal.returns-else-on_qubits
unfolding is_claim
returns-else-on_qubits c = grind (arith, nat_tests)
