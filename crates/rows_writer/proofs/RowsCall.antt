-- What is stated of the lines of several rows: their text is the sheet's by definition, and the call is `written` with
-- its checks, so the laws of every such call hold of it.
use mathlib.Core.Path.{refl}
use Rattle.letters.specs.Lists.{any_of}
use Rattle.code_record.specs.Record.{qubit_fault}
use Rattle.sheet.proofs.Numbers.{law-of-refusal, refuse_if-lawful, written-lawful}
use Rattle.sheet.proofs.Untouched.{written-leaves}
use Rattle.rows_writer.specs.Rows.{write_rows}
use Rattle.rows_writer.specs.Statements.{RowsAreOfTheirKey, RowsRefusalsLeave, RowsRefusalNumbers}
use Rattle.rows_writer.proofs.Rows.{rows-keyed}

pub rows-are-of-their-key : RowsAreOfTheirKey
rows-are-of-their-key = rows-keyed

pub rows-refusals-leave : RowsRefusalsLeave
unfolding write_rows
rows-refusals-leave key n rows buffer = written-leaves _ _ buffer

pub rows-refusal-numbers : RowsRefusalNumbers
unfolding write_rows qubit_fault any_of
rows-refusal-numbers key n rows buffer = law-of-refusal (written-lawful _ buffer (refuse_if-lawful _ _ refl) refl)
