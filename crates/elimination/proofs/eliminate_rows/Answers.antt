-- The checks of the generators in their order, 15, then 6, then 7 and 8: the first that finds a fault answers.
use mathlib.Core.Path.{sym, ◌∙◌}
use Rattle.elimination.proofs.CheckOrder.{outside-limits, clashing, clash-free}
use Rattle.elimination.proofs.eliminate_rows.Goals as goal

pub returns-then-not-generators_within : goal.returns-then-not-generators_within
returns-then-not-generators_within c =
    let a = c.args in
    c.refused.ensures ∙ outside-limits a.n a.r a.g (sym c.if-not-generators_within.ensures)

pub returns-in-Err : goal.returns-in-Err
returns-in-Err c =
    let a = c.args in
    c.refused-in-Err.ensures ∙ clashing a.n a.r a.g (sym c.if-not-generators_within.ensures) c.in-Err.ensures

pub returns : goal.returns
returns c =
    let a = c.args in
    c.independence.ensures ∙ clash-free a.n a.r a.g (sym c.if-not-generators_within.ensures) c.in_default.ensures
