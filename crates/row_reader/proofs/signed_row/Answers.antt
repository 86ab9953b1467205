-- The line has no letters; or it has no sign; or the row is read.
use mathlib.Core.Path.{ap, sym, ◌∙◌}
use Prim.Native.Nat.{◌+◌}
use native.Mathlib.Omega.{arith}
use lib.ListN.{drop}
use Rattle.code_record.specs.Record.{most_qubits}
use Rattle.sheet.specs.Reader.{got, read_letters}
use Rattle.line_parts.specs.Values.{up_to}
use Rattle.line_parts.proofs.LineValues.{value-within}
use Rattle.row_reader.proofs.Answers.{answers-none}
use Rattle.row_reader.proofs.LetterLines.{row-no-letters, row-no-sign, row-value}
use Rattle.row_reader.proofs.signed_row.Goals as goal

pub returns-in_err-plus : goal.returns-in_err-plus
returns-in_err-plus c =
    answers-none c.from_residual.ensures (λ at. row-no-letters _ at _ (sym c.line_letters.ensures ∙ c.in_err-plus.was))

pub bounds-s-2 : goal.bounds-s-2
bounds-s-2 c =
    omega (
      arith,
      value-within 3 c.args.n (up_to most_qubits read_letters) c.args.s.now
          (sym c.line_letters.ensures ∙ c.in_ok-plus.was),
    )

pub returns-in_err-sign : goal.returns-in_err-sign
returns-in_err-sign c =
    answers-none c.from_residual-in_err-sign.ensures
    (λ at. row-no-sign _ at _ (sym c.read.ensures ∙ c.in_err-sign.was))

pub overflow_add-result : goal.overflow_add-result
overflow_add-result c =
    omega (
      arith,
      value-within 3 c.args.n (up_to most_qubits read_letters) c.args.s.now
          (sym c.line_letters.ensures ∙ c.in_ok-plus.was),
    )

pub returns : goal.returns
returns c =
    let n = c.args.n in
    let s = c.args.s.now in
    let letters = sym c.line_letters.ensures ∙ c.in_ok-plus.was in
    record {
      within = omega (arith, value-within 3 n (up_to most_qubits read_letters) s letters);
      gives =
          λ at. ap (λ P. got P (drop (n + 4) s)) c.signed.ensures
          ∙ sym (row-value n at s (sym c.read.ensures ∙ c.in_ok-sign.was) letters);
    }
