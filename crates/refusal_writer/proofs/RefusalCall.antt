-- What is stated of the lines of a refusal: the call is `written` with its checks, so the laws of every such call hold
-- of it.
use Rattle.std.specs.Prelude.{Option, Some, None}
use mathlib.Core.List.{[], ◌∷◌}
use mathlib.Core.Path.{refl, ap}
use Rattle.letters.specs.Lists.{any_of}
use Rattle.refusals.specs.declared.ErrorPair.{ErrorPair}
use Rattle.refusals.specs.Refusals.{values}
use Rattle.code_record.specs.Record.{qubit_fault}
use Rattle.sheet.specs.Statements.{Among}
use Rattle.sheet.specs.Text.{written}
use Rattle.sheet.proofs.Numbers.{IfRefused, law-of-refusal, refuse_if-lawful, written-lawful}
use Rattle.sheet.proofs.Untouched.{written-leaves}
use Rattle.reporting.specs.Report.{refusal_text}
use Rattle.refusal_writer.specs.RefusalLines.{errors_fault, pair_fault, write_refusal}
use Rattle.refusal_writer.specs.Statements.{RefusalIsWritten, RefusalRefusalsLeave, RefusalRefusalNumbers}

pub refusal-is-written : RefusalIsWritten
unfolding write_refusal
refusal-is-written refusal buffer sound = ap (λ fault. written fault (refusal_text refusal) buffer) sound

pub refusal-refusals-leave : RefusalRefusalsLeave
unfolding write_refusal
refusal-refusals-leave refusal buffer = written-leaves _ _ buffer

errors-lawful : (errors : Option ErrorPair) → IfRefused (Among (15 ∷ 17 ∷ [])) (errors_fault errors)
unfolding errors_fault qubit_fault any_of
errors-lawful None = IfRefused.unrefused
errors-lawful (Some pair) = refuse_if-lawful _ _ refl

pub refusal-refusal-numbers : RefusalRefusalNumbers
unfolding write_refusal pair_fault any_of
refusal-refusal-numbers refusal buffer =
    law-of-refusal (written-lawful _ buffer (errors-lawful (values refusal).errors) refl)
