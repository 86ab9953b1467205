-- What is stated of the lines of the families: the call is `written` with its checks, so the laws of every such call
-- hold of it.
use mathlib.Core.Path.{refl}
use Rattle.letters.specs.Lists.{any_of}
use Rattle.code_record.specs.Record.{qubit_fault}
use Rattle.sheet.proofs.Numbers.{law-of-refusal, refuse_if-lawful, written-lawful}
use Rattle.sheet.proofs.Untouched.{written-leaves}
use Rattle.families_writer.specs.Families.{write_families}
use Rattle.families_writer.specs.Statements.{FamiliesRefusalsLeave, FamiliesRefusalNumbers}

pub families-refusals-leave : FamiliesRefusalsLeave
unfolding write_families
families-refusals-leave c buffer = written-leaves _ _ buffer

pub families-refusal-numbers : FamiliesRefusalNumbers
unfolding write_families qubit_fault any_of
families-refusal-numbers c buffer = law-of-refusal (written-lawful _ buffer (refuse_if-lawful _ _ refl) refl)
