-- Each turn takes one digit more.
use mathlib.Core.Path.{refl, ap, ap₂, ◌∙◌}
use Prim.Native.Nat.{◌+◌, ◌*◌, ◌%◌}
use lib.Seq.{take_all}
use borrow.Author.Rules.{rules}
use Rattle.test_cases.specs.Cases.{said}
use Rattle.test_cases.proofs.Bytes.{said_more}
use Rattle.test_cases.proofs.number.Goals as goal

pub loop-digit-init : goal.loop-digit-init
unfolding said
loop-digit-init c = refl

pub loop-digit-preserved : goal.loop-digit-preserved
loop-digit-preserved c =
    ap₂ (λ m d. (m * 10 + d) % 1000000) c.loop-digit.invariant c.from.ensures
    ∙ said_more c.args.digits.now c.loop-digit.digit-index (search rules)

pub returns : goal.returns
returns c =
    let s = c.args.digits.now in
    c.loop-digit.invariant ∙ ap (λ s. said s % 1000000) (take_all c.loop-digit.digit-index s (search rules))
