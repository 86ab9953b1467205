-- The phase is brought to 0 to 3, and the masks stay.
use mathlib.Core.Path.{refl}
use Rattle.pauli.specs.Product.{modulo4}
use Rattle.columns.proofs.modulo4.Goals as goal

pub returns : goal.returns
unfolding modulo4
returns c = refl
