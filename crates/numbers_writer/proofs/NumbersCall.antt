-- What is stated of the lines of two numbers: the call is `written` with its checks, so the laws of every such call
-- hold of it.
use mathlib.Core.Path.{refl}
use Rattle.letters.specs.Lists.{any_of}
use Rattle.sheet.proofs.Numbers.{IfRefused, law-of-refusal, written-lawful}
use Rattle.sheet.proofs.Untouched.{written-leaves}
use Rattle.numbers_writer.specs.Numbers.{write_numbers}
use Rattle.numbers_writer.specs.Statements.{NumbersRefusalsLeave, NumbersRefusalNumbers}

pub numbers-refusals-leave : NumbersRefusalsLeave
unfolding write_numbers
numbers-refusals-leave key m key' m' buffer = written-leaves _ _ buffer

pub numbers-refusal-numbers : NumbersRefusalNumbers
unfolding write_numbers any_of
numbers-refusal-numbers key m key' m' buffer = law-of-refusal (written-lawful _ buffer IfRefused.unrefused refl)
