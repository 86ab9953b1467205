-- The ones of two masks are as many, by parity, as those of their bitwise sum: the machine counts once.
use mathlib.Core.Path.{ap, sym, ◌∙◌}
use Prim.Native.Nat.{ℕ, ◌%◌}
use lib.Bits.{bit_and, bit_xor}
use Rattle.pauli.specs.Masks.{dot}
use Rattle.pauli.specs.Product.{symplectic}
use Rattle.pauli.proofs.Masks.{count_ones-ones, parity-xor}
use Rattle.pauli.proofs.Pauli.symplectic.Goals as goal

pub returns : goal.returns
unfolding symplectic dot
returns c =
    let at = c.args in
    let one = bit_and at.self.a at.q.b in
    let other = bit_and at.q.a at.self.b in
    ap (λ (count : ℕ). count % 2) (sym (count_ones-ones (bit_xor one other))) ∙ parity-xor one other
