-- What a row was, from what is left of it: independent where a mask is not 0, else -I or +I by the phase.
use mathlib.Core.Path.{sym}
use Rattle.reduced_rows.proofs.RowKinds.{kind-independent, kind-minus, kind-plus}
use Rattle.reduced_rows.proofs.kind_of.Goals as goal

pub returns-then-not-is_phase : goal.returns-then-not-is_phase
returns-then-not-is_phase c = kind-independent c.args.left (sym c.if-not-is_phase.ensures)

pub returns-then-left-eq2 : goal.returns-then-left-eq2
returns-then-left-eq2 c = kind-minus c.args.left (sym c.if-not-is_phase.ensures) c.if-left-eq2.true

pub returns : goal.returns
returns c = kind-plus c.args.left (sym c.if-not-is_phase.ensures) c.if-left-eq2.false
