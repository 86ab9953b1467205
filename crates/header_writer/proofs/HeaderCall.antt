-- What is stated of the lines of n, k, d and t: a code's text begins with them by definition, and the call is `written`
-- with its checks, so the laws of every such call hold of it.
use mathlib.Core.Path.{refl}
use Rattle.letters.specs.Lists.{any_of}
use Rattle.sheet.proofs.Numbers.{IfRefused, law-of-refusal, written-lawful}
use Rattle.sheet.proofs.Untouched.{written-leaves}
use Rattle.reporting.specs.Report.{code_text}
use Rattle.header_writer.specs.Header.{header_text, write_header}
use Rattle.header_writer.specs.Statements.{HeaderBeginsCode, HeaderRefusalsLeave, HeaderRefusalNumbers}

pub header-begins-code : HeaderBeginsCode
unfolding code_text header_text
header-begins-code c = refl

pub header-refusals-leave : HeaderRefusalsLeave
unfolding write_header
header-refusals-leave n k d t buffer = written-leaves _ _ buffer

pub header-refusal-numbers : HeaderRefusalNumbers
unfolding write_header any_of
header-refusal-numbers n k d t buffer = law-of-refusal (written-lawful _ buffer IfRefused.unrefused refl)
