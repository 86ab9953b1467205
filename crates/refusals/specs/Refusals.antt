-- What each refusal says: the number and the values of each case.
use Rattle.std.specs.Prelude.{Option, Some, None, Result, Ok, Err, Bool, cond, ℕ}
use Rattle.refusals.specs.declared.ErrorPair.{ErrorPair}
use Rattle.refusals.specs.declared.Family.{Family}
use Rattle.refusals.specs.declared.Refusal.{Refusal}
use Rattle.refusals.specs.declared.Refusal.TheVariants.{TooLong, Form, QubitCount, DistanceRange}
use Rattle.refusals.specs.declared.Refusal.TheVariants.{GeneratorCount}
use Rattle.refusals.specs.declared.Refusal.TheVariants.{GeneratorsAnticommute, MinusIdentity}
use Rattle.refusals.specs.declared.Refusal.TheVariants.{DependentGenerator}
use Rattle.refusals.specs.declared.Refusal.TheVariants.{LogicalAnticommutes, LogicalPairing, ClaimedWeight}
use Rattle.refusals.specs.declared.Refusal.TheVariants.{ClaimedAnticommutes, ClaimedInGroup, DistanceRefuted}
use Rattle.refusals.specs.declared.Refusal.TheVariants.{RecordLimits, Syndrome, ShortBuffer}
use Rattle.refusals.specs.declared.RefusalValues.{RefusalValues}

-- RULES, "Refusals": a refusal has a number and the line named, 0 for none. One about a row has the row's family
-- besides, and 14 has two errors.
pub record Values : Type 0 where
  pub number : ℕ
  pub line : ℕ
  pub family : Option Family
  pub errors : Option ErrorPair

abbrev pub plain : ℕ → ℕ → Values
plain number line = record { number = number; line = line; family = None; errors = None }

abbrev pub of_row : ℕ → ℕ → Family → Values
of_row number line family = record { number = number; line = line; family = Some family; errors = None }

abbrev pub values : Refusal → Values
values TooLong = plain 1 0
values (Form line) = plain 2 line
values (QubitCount line) = plain 3 line
values (DistanceRange line) = plain 4 line
values (GeneratorCount line) = plain 5 line
values (GeneratorsAnticommute line family) = of_row 6 line family
values (MinusIdentity line family) = of_row 7 line family
values (DependentGenerator line family) = of_row 8 line family
values (LogicalAnticommutes line family) = of_row 9 line family
values (LogicalPairing line family) = of_row 10 line family
values (ClaimedWeight line) = plain 11 line
values (ClaimedAnticommutes line) = plain 12 line
values (ClaimedInGroup line) = plain 13 line
values (DistanceRefuted line pair) = record { number = 14; line = line; family = None; errors = Some pair }
values RecordLimits = plain 15 0
values (Syndrome line) = plain 16 line
values ShortBuffer = plain 17 0

abbrev pub answered_values : Values → RefusalValues
answered_values v = record { number = v.number; line = v.line; family = v.family }

-- How many bytes a call wrote: none where it refused.
abbrev pub count_of : Result ℕ Refusal → ℕ
count_of (Ok m) = m
count_of (Err refusal) = 0

-- The refusal where the test holds.
unfoldable pub refuse_if : Bool → Refusal → Option Refusal
refuse_if test refusal = cond test (Some refusal) None

-- RULES, "Refusals": of several checks, the first fault is the answer.
infixr 20 ◌then◌
unfoldable pub ◌then◌ : Option Refusal → Option Refusal → Option Refusal
None then next = next
(Some refusal) then next = Some refusal
