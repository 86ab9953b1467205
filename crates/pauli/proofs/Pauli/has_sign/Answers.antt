-- The phase is compared with the one that the sign gives, which is below 4 already.
use mathlib.Core.Path.{ap, sym, ◌∙◌}
use Prim.Native.Nat.{ℕ, ◌%◌}
use native.Mathlib.Nat.{mod-mod}
use lib.Dec.{eqb}
use Rattle.pauli.specs.Letters.{row_phase, has_sign}
use Rattle.pauli.specs.Product.{has_phase}
use Rattle.pauli.proofs.Pauli.has_sign.Goals as goal

pub returns : goal.returns
unfolding has_sign has_phase row_phase
returns c = ap (λ (x : ℕ). eqb (c.args.self.p % 4) x) (c.row_phase.ensures ∙ sym (mod-mod _ 4))
