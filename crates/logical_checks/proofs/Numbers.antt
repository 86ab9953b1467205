-- The numbers with which the call refuses: 15, and those of its two checks.
use mathlib.Core.List.{[]}
use mathlib.Core.Path.{refl}
use Rattle.letters.specs.Lists.{any_of}
use Rattle.sheet.proofs.Numbers.{law-of-refusal, refuse_if-lawful, then-lawful}
use Rattle.stabilizer.proofs.Theorems.{first-lawful}
use Rattle.admission.specs.Logicals.{detected, mispaired, detected_fault, pairing_fault}
use Rattle.code_record.specs.Record.{qubit_fault}
use Rattle.logical_checks.specs.Statements.{LogicalRefusalNumbers}

pub logical-refusal-numbers : LogicalRefusalNumbers
unfolding qubit_fault detected_fault detected pairing_fault mispaired any_of
logical-refusal-numbers c =
    law-of-refusal (then-lawful (refuse_if-lawful _ _ refl)
    (then-lawful (first-lawful (detected c) (λ before at P. refuse_if-lawful _ _ refl) [] _ _)
    (first-lawful (mispaired c) (λ before at P. refuse_if-lawful _ _ refl) [] _ _)))
