-- The pair by masks is that of the letters. The machine's count of ones is the count of the definition.
use Rattle.std.proofs.Common.{◌≡◌, ℕ, ◌+◌, ◌/◌, ap, ap₂, ◌∙◌, rules, arith}
use lib.Bits.{bit_or}
use Rattle.pauli.specs.Masks.{count_ones}
use Rattle.pauli.proofs.Masks.{count_ones-ones}
use Rattle.refuting_pair.specs.LowestOnes.{without_lowest}
use Rattle.refuting_pair.proofs.HalfMasks.{pair_with, pair-of-letters}
use Rattle.refuting_pair.proofs.refuting_pair.Goals as goal

pub returns : goal.returns
returns c =
    let a = c.args in
    let half : c.div_ceil.result ≡ (count_ones (bit_or a.a a.b) + 1) / 2 =
    omega (arith, c.div_ceil.ensures, count_ones-ones (bit_or a.a a.b)) in
    ap₂ (λ e f. record { n = a.n; e = e; f = f }) c.signed.ensures c.signed-2.ensures
    ∙ ap (pair_with a.n a.a a.b) (c.without_lowest-kept.ensures
    ∙ ap (λ (count : ℕ). without_lowest count (bit_or a.a a.b)) half)
    ∙ pair-of-letters a.n a.a a.b (search rules) (search rules)
