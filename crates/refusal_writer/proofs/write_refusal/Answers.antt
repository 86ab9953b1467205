-- 14 has a function of its own, and every other refusal is two numbers.
use Rattle.std.specs.Prelude.{None}
use mathlib.Core.Path.{◌≡◌, refl}
use Rattle.std.proofs.Common.{ℕ}
use Rattle.refusals.specs.declared.ErrorPair.{ErrorPair}
use Rattle.refusals.specs.declared.Refusal.{Refusal}
use Rattle.refusals.specs.declared.Refusal.TheVariants.{TooLong, Form, QubitCount, DistanceRange}
use Rattle.refusals.specs.declared.Refusal.TheVariants.{GeneratorCount, GeneratorsAnticommute, MinusIdentity}
use Rattle.refusals.specs.declared.Refusal.TheVariants.{DependentGenerator, LogicalAnticommutes}
use Rattle.refusals.specs.declared.Refusal.TheVariants.{LogicalPairing, ClaimedWeight, ClaimedAnticommutes}
use Rattle.refusals.specs.declared.Refusal.TheVariants.{ClaimedInGroup, DistanceRefuted, RecordLimits}
use Rattle.refusals.specs.declared.Refusal.TheVariants.{Syndrome, ShortBuffer}
use Rattle.refusals.specs.Refusals.{values}
use Rattle.numbers_writer.specs.Numbers.{write_numbers}
use Rattle.refusal_writer.specs.RefusalLines.{write_refusal}
use Rattle.refusal_writer.proofs.RefusalText.{plain-answers}
use Rattle.refusal_writer.proofs.write_refusal.Goals as goal

no-errors : (refusal : Refusal) → ((at : ℕ) (pair : ErrorPair) → refusal ≡ DistanceRefuted at pair → ⊥)
    → (values refusal).errors ≡ None
no-errors TooLong _ = refl
no-errors (Form at) _ = refl
no-errors (QubitCount at) _ = refl
no-errors (DistanceRange at) _ = refl
no-errors (GeneratorCount at) _ = refl
no-errors (GeneratorsAnticommute at family) _ = refl
no-errors (MinusIdentity at family) _ = refl
no-errors (DependentGenerator at family) _ = refl
no-errors (LogicalAnticommutes at family) _ = refl
no-errors (LogicalPairing at family) _ = refl
no-errors (ClaimedWeight at) _ = refl
no-errors (ClaimedAnticommutes at) _ = refl
no-errors (ClaimedInGroup at) _ = refl
no-errors (DistanceRefuted at pair) other = absurd (other at pair refl)
no-errors RecordLimits _ = refl
no-errors (Syndrome at) _ = refl
no-errors ShortBuffer _ = refl

pub returns-in_default : goal.returns-in_default
unfolding write_refusal write_numbers
returns-in_default c =
    let told = plain-answers c.args.refusal (no-errors c.args.refusal c.in_default.not-DistanceRefuted) c.args.out.now
    c.values-values.result c.values-values.ensures (c.write_numbers.ensures.value, c.write_numbers.ensures.out_after) in
    record { value = told.0; out_after = told.1 }
