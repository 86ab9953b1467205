-- The zeros below a one are counted, and it is among the n bits or not.
use native.Mathlib.Omega.{arith}
use Rattle.columns.proofs.FirstOnes.{one-tested, no-one-tested}
use borrow.Author.Rules.{rules}
use Rattle.columns.proofs.has_one.Goals as goal

pub returns-then-zeros-lt32 : goal.returns-then-zeros-lt32
returns-then-zeros-lt32 c = let a = c.args in one-tested a.n a.m (search rules) (omega (arith, c.if-zeros-lt32.true))

pub returns-else-zeros-lt32 : goal.returns-else-zeros-lt32
returns-else-zeros-lt32 c = let a = c.args in no-one-tested a.n a.m (search rules)
    (λ few. omega (arith, c.if-zeros-lt32.false))
