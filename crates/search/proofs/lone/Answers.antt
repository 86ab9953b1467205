-- No letter before the place has the wanted word and another than the shunned one.
use Rattle.std.proofs.Common.{◌∙◌}
use Rattle.letter_sums.proofs.Words.{lone-nowhere, lone-here}
use Rattle.search.proofs.lone.Goals as goal

pub returns-then-second-place : goal.returns-then-second-place
returns-then-second-place c =
    let a = c.args in
    c.placed.ensures
    ∙ lone-here a.first.now a.second.now a.qubits a.want a.shun c.loop-place.place c.loop-place-test.true
    c.loop-place.invariant c.if-first-place.true c.if-second-place.true

pub returns-after-loop-place : goal.returns-after-loop-place
returns-after-loop-place c =
    let a = c.args in
    lone-nowhere a.first.now a.second.now a.qubits a.want a.shun c.loop-place.place c.loop-place-test.false
    c.loop-place.invariant
