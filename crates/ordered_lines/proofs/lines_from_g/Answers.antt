-- The g lines, and then what follows; a refusal ends it.
use Rattle.std.specs.Prelude.{Result, Ok}
use mathlib.Core.List.{List}
use mathlib.Core.Path.{◌≡◌, refl, ap, sym, subst, ◌∙◌}
use Prim.Native.Nat.{ℕ, ◌+◌, ◌-◌, ◌≤◌}
use native.Mathlib.Omega.{arith}
use lib.ListN.{length, take, drop}
use Rattle.pauli.specs.declared.Pauli.{Pauli}
use Rattle.code_record.specs.Record.{most_qubits, most_generators, row_room, first_generator_at}
use Rattle.sheet.specs.Reader.{Reader, SheetRead, generator_lines, lines_after, answered}
use Rattle.sheet.proofs.Answered.{sheet-refused}
use Rattle.sheet.proofs.Consumed.{generator-lines-outcome}
use Rattle.sheet.proofs.Outcome.{what_was-got}
use Rattle.sheet.proofs.Parts.{tail_of}
use Rattle.sheet.proofs.Reading.{then-got, then-stop}
use Rattle.row_reader.specs.Answers.{within_qubits}
use Rattle.rows_reader.specs.declared.Rows.{Rows}
use Rattle.rows_reader.specs.declared.RowsFault.{RowsFault}
use Rattle.rows_reader.specs.Answers.{AnswersRows, lines_at}
use Rattle.ordered_lines.proofs.Reached.{Reached, RowsReached, reached-more, generators-reached, generators-refused}
use Rattle.ordered_lines.proofs.Sheets.{rows_inside, too_many-qubits, no-such-byte}
use Rattle.ordered_lines.proofs.lines_from_g.Goals as goal

-- What the g lines were read as.
abbrev Answers : List ℕ → ℕ → Result Rows RowsFault → Type 0
Answers s n r = AnswersRows s r (λ at. within_qubits n at (generator_lines n at))

-- what follows
abbrev next : (n d : ℕ) → List Pauli → Reader SheetRead
next n d gs = lines_after n d (first_generator_at + length gs) gs

module _ (s : List ℕ) (from n : ℕ) (r : Result Rows RowsFault) (few : n ≤ most_qubits) (here : from ≤ length s)
    (told : Answers (take (length s - from) (drop from s)) n r) where
  answers : Answers (drop from s) n r
  answers = subst (λ t. Answers t n r) (tail_of from s) told

  module _ {rows : Rows} (e : r ≡ Ok rows) where
    reached : RowsReached (drop from s) rows (generator_lines n first_generator_at (drop from s))
    reached = generators-reached n first_generator_at (drop from s) few r answers e

    g-read : Reached s (from + rows.used) reached.read (generator_lines n first_generator_at (drop from s))
    g-read = reached-more from rows.used s here reached.reached

    few_rows : rows.count ≤ row_room
    unfolding most_generators
    few_rows =
        omega (
          arith,
          (what_was-got (generator-lines-outcome n first_generator_at (drop from s)) reached.reached.gives).lawful.most,
          ap (λ p. p.0) reached.held,
        )

pub returns-then-n-gt-MOST_QUBITS : goal.returns-then-n-gt-MOST_QUBITS
returns-then-n-gt-MOST_QUBITS c =
    let a = c.args in
    sheet-refused a.s.now c.off_form.ensures refl
    (too_many-qubits a.from a.n a.d a.s.now c.if-n-gt-MOST_QUBITS.true)

pub returns-then-s-from : goal.returns-then-s-from
returns-then-s-from c =
    let a = c.args in
    sheet-refused a.s.now c.off_form-then-s-from.ensures refl
    (no-such-byte a.from a.n a.d a.s.now c.if-n-gt-MOST_QUBITS.false c.if-s-from.true)

pub returns-in_default : goal.returns-in_default
returns-in_default c =
    let a = c.args in
    let few = c.if-n-gt-MOST_QUBITS.false in
    let here = c.if-s-from.false in
    let s = a.s.now in
    let h = answers s a.from a.n _ few here c.generator_lines-read.ensures.answers_rows in
    let mapped = rw c.in_default.is at c.map.ensures.cases in
    sheet-refused s c.refused.ensures (c.lines_at.ensures ∙ ap (lines_at first_generator_at) mapped)
    (rows_inside a.from a.n a.d s few here
    ∙ then-stop (next a.n a.d) (generators-refused a.n first_generator_at (drop a.from s) few _ h c.in_default.is))

pub overflow_add-at : goal.overflow_add-at
overflow_add-at c =
    omega (
      arith,
      few_rows c.args.s.now c.args.from c.args.n _ c.if-n-gt-MOST_QUBITS.false c.if-s-from.false
          c.generator_lines-read.ensures.answers_rows c.in-Ok.is,
    )

pub overflow_add-from : goal.overflow_add-from
overflow_add-from c =
    let read = g-read c.args.s.now c.args.from c.args.n _ c.if-n-gt-MOST_QUBITS.false c.if-s-from.false
    c.generator_lines-read.ensures.answers_rows c.in-Ok.is in
    omega (arith, read.within)

pub lines_after-requires : goal.lines_after-requires
lines_after-requires c =
    let few = c.if-n-gt-MOST_QUBITS.false in
    let here = c.if-s-from.false in
    let told = c.generator_lines-read.ensures.answers_rows in
    let most = few_rows c.args.s.now c.args.from c.args.n _ few here told c.in-Ok.is in
    record {
      from_in_bounds = (g-read c.args.s.now c.args.from c.args.n _ few here told c.in-Ok.is).within;
      n_le_most_qubits = few;
      at_bound = omega (arith, most);
    }

pub returns : goal.returns
returns c =
    let a = c.args in
    let s = a.s.now in
    let few = c.if-n-gt-MOST_QUBITS.false in
    let here = c.if-s-from.false in
    let told = c.generator_lines-read.ensures.answers_rows in
    let h = reached s a.from a.n _ few here told c.in-Ok.is in
    let read = g-read s a.from a.n _ few here told c.in-Ok.is in
    c.lines_after.ensures h.read h.held
    ∙ ap (answered s)
    (ap (λ m. lines_after a.n a.d (first_generator_at + m) h.read (drop (a.from + c.in-Ok.generators.used) s))
    (sym (ap (λ p. p.0) h.held))
    ∙ sym (rows_inside a.from a.n a.d s few here ∙ then-got (next a.n a.d) read.gives))
