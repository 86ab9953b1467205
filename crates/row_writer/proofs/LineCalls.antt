-- What is stated of a row's line that is written by itself: its text is the sheet's by definition, and the two calls
-- are `written` with their checks, so the laws of every such call hold of them.
use mathlib.Core.Path.{refl}
use Rattle.letters.specs.Lists.{any_of}
use Rattle.sheet.proofs.Numbers.{law-of-refusal, refuse_if-lawful, written-lawful}
use Rattle.sheet.proofs.Untouched.{written-leaves}
use Rattle.code_record.specs.Record.{qubit_fault}
use Rattle.row_writer.specs.Lines.{write_row, write_letters}
use Rattle.row_writer.specs.Statements.{LinesAreOfTheirKey, LineRefusalsLeave, LineRefusalNumbers}
use Rattle.row_writer.proofs.Lines.{row-keyed, letters-keyed}

pub lines-are-of-their-key : LinesAreOfTheirKey
lines-are-of-their-key = record { row = row-keyed; letters = letters-keyed }

pub line-refusals-leave : LineRefusalsLeave
unfolding write_row write_letters
line-refusals-leave = record {
  row = λ key n P buffer. written-leaves _ _ buffer;
  letters = λ key n P buffer. written-leaves _ _ buffer;
}

pub line-refusal-numbers : LineRefusalNumbers
unfolding write_row write_letters qubit_fault any_of
line-refusal-numbers = record {
  row = λ key n P buffer. law-of-refusal (written-lawful _ buffer (refuse_if-lawful _ _ refl) refl);
  letters = λ key n P buffer. law-of-refusal (written-lawful _ buffer (refuse_if-lawful _ _ refl) refl);
}
