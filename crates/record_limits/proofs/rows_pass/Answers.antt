-- At a turn the row at the place is asked, and then those behind it.
use Rattle.std.proofs.Common.{◌≡◌, ◌∙◌, Bool, ap, ap₂, sym, get_or, set, drop, add-one, arith}
use Rattle.pauli.specs.Product.{identity}
use Rattle.code_record.specs.Record.{is_row}
use Rattle.unused_rows.specs.Unused.{are_identities}
use Rattle.record_limits.proofs.RowLimits.{idle, idle-read, idle-more, idle-unused, row_at, no-row-left}
use Rattle.record_limits.proofs.rows_pass.Goals as goal
use Rattle.record_limits.proofs.rows_pass.Goals.{After-is_row}

-- What was found of the row at the place, which is still as it was.
found : (c : After-is_row) {t : Bool} → c.is_row.result ≡ t
    → is_row c.args.n (get_or c.args.rows.now c.loop-place.place identity) ≡ t
found c e =
    let place = c.loop-place.place in
    ap (is_row c.args.n) (sym (idle-read place c.args.rows.now))
    ∙ ap (λ rows. is_row c.args.n (get_or rows place identity)) (sym c.loop-place.invariant.0)
    ∙ sym c.is_row.ensures ∙ e

pub returns-then-not-is_row-clause-answer : goal.returns-then-not-is_row-clause-answer
returns-then-not-is_row-clause-answer c =
    let a = c.args in
    sym (c.loop-place.invariant.1
    ∙ row_at a.n a.m c.loop-place.place a.rows.now (omega arith) c.loop-place-test.true
    (found (goal.at.returns-then-not-is_row-clause-answer c).After-is_row c.if-not-is_row.true))

pub loop-place-preserved : goal.loop-place-preserved
loop-place-preserved c =
    let a = c.args in
    let place = c.loop-place.place in (
      ap₂ (λ rows one. set rows place one) c.loop-place.invariant.0 c.identity.ensures
          ∙ idle-more place a.rows.now ∙ ap (λ i. idle i a.rows.now) (sym (add-one place)),
      c.loop-place.invariant.1
          ∙ row_at a.n a.m place a.rows.now (omega arith) c.loop-place-test.true
          (found (goal.at.loop-place-preserved c).After-is_row c.if-not-is_row.false),
    )

pub returns-clause-answer : goal.returns-clause-answer
returns-clause-answer c =
    let a = c.args in
    sym (c.loop-place.invariant.1 ∙ no-row-left a.n a.m c.loop-place.place a.rows.now c.loop-place-test.false)

pub returns-clause-rest : goal.returns-clause-rest
returns-clause-rest c = λ _.
    let rows = c.args.rows.now in
    let end : c.loop-place.place ≡ c.args.m = omega arith in
    ap are_identities c.loop-place.invariant.0 ∙ idle-unused c.loop-place.place rows
    ∙ ap (λ i. are_identities (drop i rows)) end
