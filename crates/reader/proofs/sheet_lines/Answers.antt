-- n, and then what follows; a refusal ends it.
use Rattle.std.specs.Prelude.{Ok}
use mathlib.Core.List.{List}
use mathlib.Core.Path.{◌≡◌, ap, sym, ◌∙◌}
use Prim.Native.Nat.{ℕ, ◌≤◌}
use Rattle.code_record.specs.Record.{most_qubits}
use Rattle.sheet.specs.Reader.{qubit_line, sheet_lines, answered}
use Rattle.sheet.proofs.Answered.{sheet-refused}
use Rattle.sheet.proofs.Consumed.{qubit-line-outcome}
use Rattle.sheet.proofs.Outcome.{what_was-got}
use Rattle.sheet.proofs.Reading.{then-got, then-stop}
use Rattle.number_reader.specs.declared.NumberLine.{NumberLine}
use Rattle.number_reader.specs.Answers.{number_answer}
use Rattle.ordered_lines.proofs.Reached.{Reached}
use Rattle.reader.specs.Lines.{lines_from_d}
use Rattle.reader.proofs.Numbers.{number-reached, number-stopped}
use Rattle.reader.proofs.sheet_lines.Goals as goal

module _ (s : List ℕ) {line : NumberLine} (e : Ok line ≡ number_answer s (qubit_line s)) where
  n-read : Reached s line.used line.number (qubit_line s)
  n-read = number-reached s (qubit-line-outcome s) e

  few : line.number ≤ most_qubits
  few = (what_was-got (qubit-line-outcome s) n-read.gives).lawful.1

pub returns-in_default : goal.returns-in_default
unfolding sheet_lines
returns-in_default c =
    let s = c.args.s.now in
    let mapped = rw c.in_default.is at c.map.ensures.cases in
    sheet-refused s c.refused.ensures mapped
    (then-stop lines_from_d (number-stopped s (sym c.in_default.is ∙ c.qubit_line-qubits.ensures)))

pub lines_from_d-requires : goal.lines_from_d-requires
lines_from_d-requires c =
    let s = c.args.s.now in
    let told = sym c.in-Ok.is ∙ c.qubit_line-qubits.ensures in
    record { from_in_bounds = (n-read s told).within; n_le_most_qubits = few s told }

pub returns : goal.returns
unfolding sheet_lines
returns c =
    let s = c.args.s.now in
    let read = n-read s (sym c.in-Ok.is ∙ c.qubit_line-qubits.ensures) in
    c.lines_from_d.ensures ∙ ap (answered s) (sym (then-got lines_from_d read.gives))
