-- No string of the weight on the qubits passed is found, nor one that begins with a letter passed at the next qubit.
use Rattle.std.specs.Prelude.{None}
use Rattle.std.proofs.Common.{◌≡◌, ℕ, ◌+◌, ◌*◌, ◌-◌, sym, ap, ◌∙◌, arith}
use borrow.Author.Count.{below_more}
use Rattle.letters.specs.Letters.{struck_letter}
use Rattle.letter_sums.specs.Sums.{found_as, earliest_of}
use Rattle.letter_sums.proofs.Masks.{found_some, found_nothing, placed-found, nothing-found}
use Rattle.letter_sums.proofs.Words.{behind, none-short, none-to-the-right, found_here, found_nowhere, masks-lt}
use Rattle.word_filter.proofs.Tables.{fewer-told, none-ended}
use Rattle.search.proofs.+completion.Goals as goal
use Rattle.search.proofs.+completion.Goals.{then-may_end+in_default, else-may_end}

pub returns-then-weight-eq1 : goal.returns-then-weight-eq1
returns-then-weight-eq1 t c =
    let a = c.args in
    c.lone.ensures
    ∙ ap (λ (weight : ℕ). found_as (earliest_of a.first.now a.second.now a.qubits weight a.want a.shun))
    (sym c.if-weight-eq1.true)

pub loop-right-init : goal.loop-right-init
loop-right-init t c =
    let a = c.args in
    none-short a.first.now a.second.now (a.weight - 1) a.weight a.want a.shun (omega arith)

pub completion-behind-requires : goal.completion-behind-requires
completion-behind-requires t c =
    let a = c.args in
    let told =
    fewer-told a.places.now a.first.now (3 * a.qubits) (3 * c.loop-right.right) (omega arith) c.requires.none_before in
    (omega arith, (omega arith, (omega arith, (omega arith, told))))

pub placed-requires-clause-a_bound : goal.placed-requires-clause-a_bound
placed-requires-clause-a_bound t c =
    (masks-lt _ _ c.loop-right.right _ _ _ _ _ (found_some _ _ _ c.in-Some.ensures)).0

pub placed-requires-clause-b_bound : goal.placed-requires-clause-b_bound
placed-requires-clause-b_bound t c =
    (masks-lt _ _ c.loop-right.right _ _ _ _ _ (found_some _ _ _ c.in-Some.ensures)).1

pub loop-letter-preserved : goal.loop-letter-preserved
loop-letter-preserved t c =
    let a = c.args in
    let right = c.loop-right.right in
    let letter = c.loop-letter.letter in
    let Nothing = behind a.first.now a.second.now right (a.weight - 1) a.want a.shun letter ≡ None in
    let passed : Nothing =
    elim c.if-may_end.branch [
      | then-may_end+in_default w ↦ found_nothing _ w.in_default.ensures
      | else-may_end w ↦
          none-ended a.places.now a.first.now a.second.now right (a.weight - 1) (3 * right + letter) _ _
          (fewer-told a.places.now a.first.now (3 * a.qubits) (3 * right) (omega arith) c.requires.none_before)
          (omega arith) (omega arith) (sym c.may_end.ensures ∙ w.if-may_end.false)
    ] in
    (omega arith, below_more _ _ c.loop-letter.invariant.1 passed)

pub loop-right-preserved : goal.loop-right-preserved
loop-right-preserved t c =
    let a = c.args in
    none-to-the-right a.first.now a.second.now c.loop-right.right a.weight a.want a.shun (omega arith)
    c.loop-right.invariant λ j h. c.loop-letter.invariant.1 j (omega arith)

pub returns-in-Some : goal.returns-in-Some
returns-in-Some t c =
    let a = c.args in
    let right = c.loop-right.right in
    let letter = c.loop-letter.letter in
    let told = found_some _ _ _ c.in-Some.ensures in
    c.placed.ensures
    ∙ placed-found (a.qubits - right - 1) _ _ (struck_letter letter) told.string _ told.is_a told.is_b
    (found_here a.first.now a.second.now a.qubits a.weight a.want a.shun right letter told.string (omega arith)
    c.loop-right-test.true c.loop-letter-test.true c.loop-right.invariant c.loop-letter.invariant.1 told.told)

pub returns-after-loop-right : goal.returns-after-loop-right
returns-after-loop-right t c =
    let a = c.args in
    nothing-found _
    (found_nowhere a.first.now a.second.now a.qubits a.weight a.want a.shun c.loop-right.right (omega arith)
    (omega arith) c.loop-right.invariant)
