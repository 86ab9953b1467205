-- A record within its limits has the checks of its generators; any other is refused with 15.
use mathlib.Core.Path.{sym, ◌∙◌}
use Rattle.elimination.proofs.CheckOrder.{record-outside, record-within}
use Rattle.elimination.proofs.eliminate.Goals as goal

pub returns-then-not-within_limits : goal.returns-then-not-within_limits
returns-then-not-within_limits c =
    c.refused.ensures ∙ record-outside c.args.code (sym c.within_limits.ensures ∙ c.if-not-within_limits.true)

pub returns : goal.returns
returns c =
    c.eliminate_rows.ensures ∙ record-within c.args.code (sym c.within_limits.ensures ∙ c.if-not-within_limits.false)
