-- Whether generators are within limits: n and r are tried first, and then the rows in turn.
use Rattle.std.proofs.Common.{◌∙◌, sym, arith}
use Rattle.std.proofs.lemmas.Bool.Decides.{nat_tests}
use Rattle.code_record.proofs.Tests.{and-true_l}
use Rattle.record_limits.specs.Generators.{generators_within}
use Rattle.record_limits.proofs.GeneratorLimits.{counts-say}
use Rattle.record_limits.proofs.RowLimits.{row_at, no-row-left}
use Rattle.record_limits.proofs.generators_within.Goals as goal

pub returns-then-not-counts_within : goal.returns-then-not-counts_within
unfolding generators_within
returns-then-not-counts_within c = grind (arith, nat_tests)

pub offset_bounds-g-place : goal.offset_bounds-g-place
offset_bounds-g-place c = omega (arith, counts-say _ _ (sym c.if-not-counts_within.ensures))

pub bounds-g-place : goal.bounds-g-place
bounds-g-place c = omega (arith, counts-say _ _ (sym c.if-not-counts_within.ensures))

pub is_row-requires : goal.is_row-requires
is_row-requires c = (counts-say _ _ (sym c.if-not-counts_within.ensures)).0

pub returns-then-not-is_row : goal.returns-then-not-is_row
unfolding generators_within
returns-then-not-is_row c =
    let a = c.args in
    let says = counts-say a.n a.r (sym c.if-not-counts_within.ensures) in
    let fails = row_at a.n a.r c.loop-place.place a.g (omega (arith, says)) c.loop-place-test.true
    (sym c.is_row.ensures ∙ c.if-not-is_row.true) in
    sym (c.loop-place.invariant ∙ fails) ∙ and-true_l _ (sym c.if-not-counts_within.ensures)

pub loop-place-preserved : goal.loop-place-preserved
loop-place-preserved c =
    let a = c.args in
    let says = counts-say a.n a.r (sym c.if-not-counts_within.ensures) in
    c.loop-place.invariant
    ∙ row_at a.n a.r c.loop-place.place a.g (omega (arith, says)) c.loop-place-test.true
    (sym c.is_row.ensures ∙ c.if-not-is_row.false)

pub returns : goal.returns
unfolding generators_within
returns c =
    let a = c.args in
    sym (c.loop-place.invariant ∙ no-row-left a.n a.r c.loop-place.place a.g c.loop-place-test.false)
    ∙ and-true_l _ (sym c.if-not-counts_within.ensures)
