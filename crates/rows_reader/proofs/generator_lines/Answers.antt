-- The rows are gathered; then what stands behind them is looked at, and their count.
use mathlib.Core.Bool.{Bool}
use mathlib.Core.List.{List}
use mathlib.Core.Path.{◌≡◌, refl, ap, sym, subst, ◌∙◌}
use Prim.Native.Nat.{ℕ, ◌+◌, ◌-◌, ◌<◌, ◌≤◌, min}
use native.Mathlib.Omega.{arith}
use lib.ListN.{length, take, drop}
use Rattle.letters.specs.Lists.{bytes}
use Rattle.pauli.specs.declared.Pauli.{Pauli}
use Rattle.refusals.specs.declared.Refusal.{Refusal}
use Rattle.code_record.specs.Record.{row_room, most_qubits, most_generators}
use Rattle.sheet.specs.Reader.{Parsed, stop, begins, generator_lines}
use Rattle.sheet.proofs.Parts.{tail_of}
use Rattle.row_reader.specs.Answers.{within_qubits}
use Rattle.row_reader.proofs.Answers.{few-qubits, many-qubits}
use Rattle.gathered_rows.specs.declared.Gathered.{Gathered}
use Rattle.gathered_rows.specs.InTurn.{gathered}
use Rattle.rows_reader.specs.Answers.{rows_answer}
use Rattle.rows_reader.proofs.Gathers.{Gathers, gathers}
use Rattle.rows_reader.proofs.Counted.{generators-off-form, generators-too_many, generators-none}
use Rattle.rows_reader.proofs.Counted.{generators-read}
use Rattle.rows_reader.proofs.Answered.{rows_none, rows-given}
use Rattle.rows_reader.proofs.generator_lines.Goals as goal

module _ (s : List ℕ) (n : ℕ) (few : n ≤ most_qubits) where
  -- There is room for as many as are read.
  is-gathered : {most : ℕ} {read : Gathered} → most ≡ most_generators n
      → read ≡ gathered (min most row_room) "g=" n s → Gathers s "g=" n (most_generators n) read
  unfolding most_generators
  is-gathered {most} told e =
      let room : min most row_room ≡ most_generators n = omega arith in
      subst (Gathers s "g=" n (most_generators n)) (sym (e ∙ ap (λ m. gathered m "g=" n s) room))
      (gathers "g=" n few (most_generators n) s)

  few_rows : {read : Gathered} → Gathers s "g=" n (most_generators n) read → read.count ≤ row_room
  unfolding most_generators
  few_rows h = omega (arith, h.few)

  -- the definition, of no more qubits than a sheet may have
  within : (at : ℕ) {p : Parsed (List Pauli)} → generator_lines n at s ≡ p
      → within_qubits n at (generator_lines n at) s ≡ p
  within at e = few-qubits n at (generator_lines n at) s few ∙ e

-- whether one more begins behind them
more : (s : List ℕ) (end : ℕ) {b other : Bool} → b ≡ begins (bytes "g=") (take (length s - end) (drop end s))
    → b ≡ other → begins (bytes "g=") (drop end s) ≡ other
more s end told e = ap (begins (bytes "g=")) (sym (tail_of end s)) ∙ sym told ∙ e

pub returns-then-n-gt-MOST_QUBITS-clause-answers_rows : goal.returns-then-n-gt-MOST_QUBITS-clause-answers_rows
returns-then-n-gt-MOST_QUBITS-clause-answers_rows c =
    λ at. let first : at ≡ at + 0 = omega arith in
    rows_none c.args.s.now
    (many-qubits _ at _ _ c.if-n-gt-MOST_QUBITS.true ∙ ap (λ m. stop (Refusal.Form m)) first)

pub slice_bounds-begins_row-count : goal.slice_bounds-begins_row-count
slice_bounds-begins_row-count c =
    (is-gathered c.args.s.now c.args.n c.if-n-gt-MOST_QUBITS.false c.most_generators-most.ensures
    c.rows_up_to-read.ensures).within

pub slice_bounds-begins_row-start : goal.slice_bounds-begins_row-start
slice_bounds-begins_row-start c =
    (is-gathered c.args.s.now c.args.n c.if-n-gt-MOST_QUBITS.false c.most_generators-most.ensures
    c.rows_up_to-read.ensures).within

pub returns-then-count-most-clause-answer_bound : goal.returns-then-count-most-clause-answer_bound
returns-then-count-most-clause-answer_bound c =
    let few = c.if-n-gt-MOST_QUBITS.false in
    few_rows c.args.s.now c.args.n few
    (is-gathered c.args.s.now c.args.n few c.most_generators-most.ensures c.rows_up_to-read.ensures)

pub returns-then-count-most-clause-answers_rows : goal.returns-then-count-most-clause-answers_rows
returns-then-count-most-clause-answers_rows c =
    let s = c.args.s.now in
    let few = c.if-n-gt-MOST_QUBITS.false in
    let most = c.most_generators-most.ensures in
    λ at. rows_none s
    (within s c.args.n few at
    (generators-off-form (is-gathered s c.args.n few most c.rows_up_to-read.ensures) at
    (more s c.rows_up_to-read.result.end c.begins_row.ensures c.if-begins_row.true)
    (subst (λ m. c.rows_up_to-read.result.count < m) most c.if-count-most.true)))

pub returns-then-begins_row-clause-answer_bound : goal.returns-then-begins_row-clause-answer_bound
returns-then-begins_row-clause-answer_bound c =
    let few = c.if-n-gt-MOST_QUBITS.false in
    few_rows c.args.s.now c.args.n few
    (is-gathered c.args.s.now c.args.n few c.most_generators-most.ensures c.rows_up_to-read.ensures)

pub returns-then-begins_row-clause-answers_rows : goal.returns-then-begins_row-clause-answers_rows
returns-then-begins_row-clause-answers_rows c =
    let s = c.args.s.now in
    let few = c.if-n-gt-MOST_QUBITS.false in
    let most = c.most_generators-most.ensures in
    λ at. rows_none s
    (within s c.args.n few at
    (generators-too_many (is-gathered s c.args.n few most c.rows_up_to-read.ensures) at
    (more s c.rows_up_to-read.result.end c.begins_row.ensures c.if-begins_row.true)
    (subst (λ m. m ≤ c.rows_up_to-read.result.count) most c.if-count-most.false)))

pub returns-then-count-eq0-clause-answers_rows : goal.returns-then-count-eq0-clause-answers_rows
returns-then-count-eq0-clause-answers_rows c =
    let s = c.args.s.now in
    let few = c.if-n-gt-MOST_QUBITS.false in
    λ at. rows_none s
    (within s c.args.n few at
    (generators-none (is-gathered s c.args.n few c.most_generators-most.ensures c.rows_up_to-read.ensures) at
    (more s c.rows_up_to-read.result.end c.begins_row.ensures c.if-begins_row.false) c.if-count-eq0.true))

pub returns-clause-answers_rows : goal.returns-clause-answers_rows
returns-clause-answers_rows c =
    let s = c.args.s.now in
    let few = c.if-n-gt-MOST_QUBITS.false in
    let h = is-gathered s c.args.n few c.most_generators-most.ensures c.rows_up_to-read.ensures in
    λ at. rows-given s h.within
    (generators-read h at (more s c.rows_up_to-read.result.end c.begins_row.ensures c.if-begins_row.false)
    c.if-count-eq0.false)
    ∙ ap (rows_answer s) (sym (within s c.args.n few at refl))
