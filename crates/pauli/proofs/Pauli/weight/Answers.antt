-- The machine's count of ones is the count of the definition.
use Rattle.pauli.proofs.Masks.{count_ones-ones}
use Rattle.pauli.specs.Product.{weight}
use mathlib.Core.Path.{sym}
use lib.Bits.{bit_or}
use Rattle.pauli.proofs.Pauli.weight.Goals as goal

pub returns : goal.returns
unfolding weight
returns c = sym (count_ones-ones (bit_or c.args.self.a c.args.self.b))
