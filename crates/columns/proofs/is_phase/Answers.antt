-- A Pauli is nothing but a phase where both masks are 0; they are tried in turn.
use mathlib.Core.Bool.{◌&&◌}
use mathlib.Core.Path.{ap, sym, ◌∙◌}
use lib.Dec.{eqb}
use borrow.Author.Tests.{eq-eqb, ne_eqb}
use Rattle.pauli.specs.Product.{same_masks}
use Rattle.columns.proofs.is_phase.Goals as goal

pub returns-then-p-eq0 : goal.returns-then-p-eq0
unfolding same_masks
returns-then-p-eq0 c = let P = c.args.p in
    ap (λ x. x && eqb P.b 0) (sym (eq-eqb P.a 0 c.if-p-eq0.true))

pub returns-else-p-eq0 : goal.returns-else-p-eq0
unfolding same_masks
returns-else-p-eq0 c =
    let P = c.args.p in
    let one = ne_eqb P.a 0 c.if-p-eq0.false in
    one ∙ ap (λ x. x && eqb P.b 0) (sym one)
