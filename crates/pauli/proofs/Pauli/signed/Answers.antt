-- A signed row has the masks as given, and the phase that the sign gives to them.
use mathlib.Core.Path.{ap}
use Prim.Native.Nat.{ℕ}
use Rattle.pauli.specs.Letters.{row_of}
use Rattle.pauli.proofs.Product.{pauli}
use Rattle.pauli.proofs.Pauli.signed.Goals as goal

pub returns : goal.returns
unfolding row_of
returns c = ap (λ (x : ℕ). pauli x c.args.a c.args.b) c.row_phase.ensures
