-- A refusal of the call for canonical generators leaves the buffer as it was, as every call does whose answer is a
-- text.
use Rattle.sheet.proofs.Untouched.{written-leaves}
use Rattle.stabilizer.specs.Canonical.{write_canonical}
use Rattle.stabilizer.specs.Statements.{CanonicalRefusalsLeave}

pub canonical-refusals-leave : CanonicalRefusalsLeave
unfolding write_canonical
canonical-refusals-leave c buffer = written-leaves _ _ buffer
