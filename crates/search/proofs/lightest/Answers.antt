-- What is found at a weight is the earliest where none is lighter, and no string is heavier than it has letters.
use Rattle.std.specs.Prelude.{None}
use Rattle.std.proofs.Common.{◌≡◌, ℕ, ◌+◌, ◌<◌, List, min, sym, ◌∙◌, arith}
use borrow.Author.Count.{below_more}
use Rattle.letter_sums.specs.Sums.{found_as, earliest_up_to}
use Rattle.letter_sums.proofs.Masks.{unfound, found-again, nothing-found}
use Rattle.letter_sums.proofs.Words.{NoneLighter, up-to-some, up-to-none, up-to-all}
use Rattle.search.proofs.lightest.Goals as goal

pub loop-weight-preserved : goal.loop-weight-preserved
loop-weight-preserved c =
    below_more _ _ c.loop-weight.invariant
    (unfound _ _ c.completion-found.ensures (sym c.is_some.ensures ∙ c.if-is_some.false))

pub returns-then-is_some : goal.returns-then-is_some
returns-then-is_some c =
    let a = c.args in
    found-again _ _ _ c.completion-found.ensures (sym c.is_some.ensures ∙ c.if-is_some.true)
    (λ s here.
    up-to-some a.first.now a.second.now a.qubits a.t a.want a.shun c.loop-weight.weight s
    (omega (arith, c.min-weight-end.ensures)) c.loop-weight.invariant here)

-- No string is found up to the greatest weight.
nowhere : (first second : List ℕ) (qubits t want shun w : ℕ) → min t qubits < w
    → NoneLighter first second qubits want shun w → None ≡ found_as (earliest_up_to first second qubits t want shun)
nowhere first second qubits t want shun w end each =
    nothing-found _
    (sym (up-to-all first second qubits t want shun)
    ∙ up-to-none first second qubits (min t qubits) want shun w end each)

pub returns-else-is_some : goal.returns-else-is_some
returns-else-is_some c =
    let a = c.args in
    nowhere a.first.now a.second.now a.qubits a.t a.want a.shun (c.loop-weight.weight + 1)
    (omega (arith, c.min-weight-end.ensures))
    (below_more _ _ c.loop-weight.invariant
    (unfound _ _ c.completion-found.ensures (sym c.is_some.ensures ∙ c.if-is_some.false)))

pub returns : goal.returns
returns c =
    let a = c.args in
    nowhere a.first.now a.second.now a.qubits a.t a.want a.shun c.loop-weight.weight
    (omega (arith, c.min-weight-end.ensures)) c.loop-weight.invariant
