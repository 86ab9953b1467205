-- The first k logicals are the x rows.
use mathlib.Core.Bool.{cond}
use mathlib.Core.Path.{ap, sym}
use borrow.Author.Tests.{lt-ltb, le-ltb}
use Rattle.refusals.specs.declared.Family.{Family}
use Rattle.admission.specs.Logicals.{family_at}
use Rattle.logical_checks.proofs.family_at.Goals as goal

pub returns-then-place-pairs : goal.returns-then-place-pairs
unfolding family_at
returns-then-place-pairs c =
    let a = c.args in
    ap (λ t. cond t Family.LogicalX Family.LogicalZ) (sym (lt-ltb a.place a.pairs c.if-place-pairs.true))

pub returns : goal.returns
unfolding family_at
returns c =
    let a = c.args in
    ap (λ t. cond t Family.LogicalX Family.LogicalZ) (sym (le-ltb a.place a.pairs c.if-place-pairs.false))
