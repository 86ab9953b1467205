-- Each turn takes one more one away.
use Rattle.std.proofs.Common.{◌≡◌, ℕ, suc, ◌-◌, ◌+◌, ap, ◌∙◌, arith}
use Rattle.std.specs.Int.Bits.{bit_and}
use Rattle.refuting_pair.specs.LowestOnes.{without_one, without_lowest}
use Rattle.refuting_pair.proofs.without_lowest.Goals as goal

pub loop-preserved : goal.loop-preserved
unfolding without_lowest without_one
loop-preserved c =
    let kept = c.loop.kept in
    let left = c.args.count - (c.loop.counter + 1) in
    let next : suc left ≡ c.args.count - c.loop.counter = omega arith in
    ap (λ (m : ℕ). without_lowest left (bit_and kept m)) c.saturating_sub-kept.ensures
    ∙ ap (λ (left : ℕ). without_lowest left kept) next ∙ c.loop.invariant

pub returns : goal.returns
unfolding without_lowest
returns c =
    let none : 0 ≡ c.args.count - c.loop.counter = omega arith in
    ap (λ (left : ℕ). without_lowest left c.loop.kept) none ∙ c.loop.invariant
