-- Two Paulis commute where their symplectic product is 0: the code compares that number with 0.
use mathlib.Core.Path.{ap}
use lib.Dec.{eqb}
use Prim.Native.Nat.{ℕ}
use Rattle.pauli.specs.Product.{commutes}
use Rattle.pauli.proofs.Pauli.commutes.Goals as goal

pub returns : goal.returns
unfolding commutes
returns c = ap (λ (x : ℕ). eqb x 0) c.symplectic.ensures
