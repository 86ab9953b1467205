-- Where there is a one, the zeros below it are counted.
use mathlib.Core.Path.{sym, ◌∙◌}
use Rattle.columns.proofs.FirstOnes.{zeros-below, no-first-one}
use borrow.Author.Rules.{rules}
use Rattle.columns.proofs.first_one.Goals as goal

pub returns-then-has_one : goal.returns-then-has_one
returns-then-has_one c =
    let a = c.args in
    zeros-below a.n a.m (search rules) (sym c.has_one.ensures ∙ c.if-has_one.true)

pub returns : goal.returns
returns c =
    let a = c.args in
    sym (no-first-one a.n a.m (sym c.has_one.ensures ∙ c.if-has_one.false))
