-- The number with which the call refuses: that of the check, which has no other refusal.
use mathlib.Core.List.{[]}
use mathlib.Core.Path.{refl}
use Rattle.letters.specs.Lists.{any_of}
use Rattle.sheet.proofs.Numbers.{law-of-refusal, refuse_if-lawful}
use Rattle.stabilizer.specs.Checks.{clash}
use Rattle.stabilizer.proofs.Theorems.{first-lawful}
use Rattle.commutation.specs.Statements.{CommutationRefusalNumbers}

pub commutation-refusal-numbers : CommutationRefusalNumbers
unfolding clash any_of
commutation-refusal-numbers r g =
    law-of-refusal (first-lawful clash (λ before at P. refuse_if-lawful _ _ refl) [] _ _)
