-- Whether a Pauli is +I: the phase and the masks are tried in turn.
use Rattle.std.proofs.Common.{arith}
use Rattle.std.proofs.lemmas.Bool.Decides.{nat_tests}
use Rattle.pauli.specs.Product.{same_pauli, same_masks, has_phase}
use Rattle.unused_rows.proofs.is_identity.Goals as goal

pub returns-then-p-eq0-2 : goal.returns-then-p-eq0-2
unfolding same_pauli same_masks has_phase
returns-then-p-eq0-2 c = grind (arith, nat_tests)

pub returns-else-p-eq0-2 : goal.returns-else-p-eq0-2
unfolding same_pauli same_masks has_phase
returns-else-p-eq0-2 c = grind (arith, nat_tests)
