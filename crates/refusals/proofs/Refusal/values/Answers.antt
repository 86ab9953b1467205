-- What a refusal says: the call of each arm gives the values of its case, and self is that case.
use mathlib.Core.Path.{◌≡◌, ap, sym, ◌∙◌}
use Rattle.refusals.specs.declared.Refusal.{Refusal}
use Rattle.refusals.specs.declared.RefusalValues.{RefusalValues}
use Rattle.refusals.specs.Refusals.{values, answered_values}
use Rattle.refusals.proofs.Refusal.values.Goals as goal

by-case : {r : RefusalValues} {refusal case : Refusal} → r ≡ answered_values (values case) → refusal ≡ case
    → r ≡ answered_values (values refusal)
by-case h e = h ∙ ap (λ refusal. answered_values (values refusal)) (sym e)

pub returns-in-TooLong : goal.returns-in-TooLong
returns-in-TooLong c = by-case c.plain.ensures c.in-TooLong.is

pub returns-in-Form : goal.returns-in-Form
returns-in-Form c = by-case c.plain-in-Form.ensures c.in-Form.is

pub returns-in-QubitCount : goal.returns-in-QubitCount
returns-in-QubitCount c = by-case c.plain-in-QubitCount.ensures c.in-QubitCount.is

pub returns-in-DistanceRange : goal.returns-in-DistanceRange
returns-in-DistanceRange c = by-case c.plain-in-DistanceRange.ensures c.in-DistanceRange.is

pub returns-in-GeneratorCount : goal.returns-in-GeneratorCount
returns-in-GeneratorCount c = by-case c.plain-in-GeneratorCount.ensures c.in-GeneratorCount.is

pub returns-in-GeneratorsAnticommute : goal.returns-in-GeneratorsAnticommute
returns-in-GeneratorsAnticommute c = by-case c.of_row.ensures c.in-GeneratorsAnticommute.is

pub returns-in-MinusIdentity : goal.returns-in-MinusIdentity
returns-in-MinusIdentity c = by-case c.of_row-in-MinusIdentity.ensures c.in-MinusIdentity.is

pub returns-in-DependentGenerator : goal.returns-in-DependentGenerator
returns-in-DependentGenerator c = by-case c.of_row-in-DependentGenerator.ensures c.in-DependentGenerator.is

pub returns-in-LogicalAnticommutes : goal.returns-in-LogicalAnticommutes
returns-in-LogicalAnticommutes c = by-case c.of_row-in-LogicalAnticommutes.ensures c.in-LogicalAnticommutes.is

pub returns-in-LogicalPairing : goal.returns-in-LogicalPairing
returns-in-LogicalPairing c = by-case c.of_row-in-LogicalPairing.ensures c.in-LogicalPairing.is

pub returns-in-ClaimedWeight : goal.returns-in-ClaimedWeight
returns-in-ClaimedWeight c = by-case c.plain-in-ClaimedWeight.ensures c.in-ClaimedWeight.is

pub returns-in-ClaimedAnticommutes : goal.returns-in-ClaimedAnticommutes
returns-in-ClaimedAnticommutes c = by-case c.plain-in-ClaimedAnticommutes.ensures c.in-ClaimedAnticommutes.is

pub returns-in-ClaimedInGroup : goal.returns-in-ClaimedInGroup
returns-in-ClaimedInGroup c = by-case c.plain-in-ClaimedInGroup.ensures c.in-ClaimedInGroup.is

pub returns-in-DistanceRefuted : goal.returns-in-DistanceRefuted
returns-in-DistanceRefuted c = by-case c.plain-in-DistanceRefuted.ensures c.in-DistanceRefuted.is

pub returns-in-RecordLimits : goal.returns-in-RecordLimits
returns-in-RecordLimits c = by-case c.plain-in-RecordLimits.ensures c.in-RecordLimits.is

pub returns-in-Syndrome : goal.returns-in-Syndrome
returns-in-Syndrome c = by-case c.plain-in-Syndrome.ensures c.in-Syndrome.is

pub returns-in-ShortBuffer : goal.returns-in-ShortBuffer
returns-in-ShortBuffer c = by-case c.plain-in-ShortBuffer.ensures c.in-ShortBuffer.is
