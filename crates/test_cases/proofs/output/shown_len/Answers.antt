-- From the end on, each dot is left out.
use mathlib.Core.Path.{◌∙◌}
use borrow.Author.Rules.{rules}
use Rattle.test_cases.proofs.Bytes.{shown-nothing, shown-before-dot, shown-to-other}
use Rattle.test_cases.proofs.output.shown_len.Goals as goal

pub loop-shown-preserved : goal.loop-shown-preserved
loop-shown-preserved c =
    let at = c.loop-shown in
    (shown-before-dot at.shown.now (search rules) (search rules) ∙ at.invariant.0, search rules)

pub returns-in_default-clause-value : goal.returns-in_default-clause-value
returns-in_default-clause-value c =
    let at = c.loop-shown in
    shown-nothing at.shown.now (search rules) ∙ at.invariant.0

pub returns-in_default-2-clause-value : goal.returns-in_default-2-clause-value
returns-in_default-2-clause-value c =
    let at = c.loop-shown in
    shown-to-other at.shown.now (search rules) (search rules) ∙ at.invariant.0
