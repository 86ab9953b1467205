-- What is stated of a number's line that is written by itself: its text is the sheet's by definition, and the call is
-- `written` with its checks, so the laws of every such call hold of it.
use mathlib.Core.Path.{refl}
use Rattle.letters.specs.Lists.{any_of}
use Rattle.sheet.specs.Text.{line}
use Rattle.sheet.proofs.Numbers.{IfRefused, law-of-refusal, written-lawful}
use Rattle.sheet.proofs.Untouched.{written-leaves}
use Rattle.number_writer.specs.Lines.{number_text, write_number}
use Rattle.number_writer.specs.Statements.{NumberLineIsOfItsKey, NumberRefusalsLeave, NumberRefusalNumbers}

pub number-line-is-of-its-key : NumberLineIsOfItsKey
unfolding number_text line
number-line-is-of-its-key key m = refl

pub number-refusals-leave : NumberRefusalsLeave
unfolding write_number
number-refusals-leave key m buffer = written-leaves _ _ buffer

pub number-refusal-numbers : NumberRefusalNumbers
unfolding write_number any_of
number-refusal-numbers key m buffer = law-of-refusal (written-lawful _ buffer IfRefused.unrefused refl)
