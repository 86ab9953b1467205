-- A sheet is refused with 1 to 5, for its form, or with 6 to 14, by its checks: the refusals of both are known one by
-- one.
use Rattle.std.specs.Prelude.{Option}
use Rattle.std.specs.Result.{result_err}
use mathlib.Core.Bool.{◌||◌}
use mathlib.Core.List.{List, [], ◌∷◌}
use mathlib.Core.Path.{refl, ap, ◌∙◌}
use Prim.Native.Nat.{ℕ}
use lib.Dec.{eqb}
use Rattle.letters.specs.Lists.{any_of}
use Rattle.code_record.specs.declared.Code.{Code}
use Rattle.refusals.specs.declared.Refusal.{Refusal}
use Rattle.refusals.specs.Refusals.{values}
use Rattle.sheet.specs.Reader.{SheetRead, Parsed}
use Rattle.sheet.specs.Statements.{Among}
use Rattle.sheet.proofs.Consumed.{OfForm}
use Rattle.sheet.proofs.Numbers.{IfRefused, law-of-refusal}
use Rattle.sheet.proofs.Outcome.{Outcome, gets, stops}
use Rattle.sheet.proofs.ReadBack.{read-form-outcome}
use Rattle.stabilizer.proofs.Tests.{any_append}
use Rattle.admission.specs.Admission.{refused_reading, admitted, reading_of, checked, read_sheet}
use Rattle.admission.specs.Statements.{AdmissionRefusalNumbers}
use Rattle.admission.proofs.Refusals.{OfChecks, law-of-fault, checks-refuse}

abbrev checks : List ℕ
checks = 6 ∷ 7 ∷ 8 ∷ 9 ∷ 10 ∷ 11 ∷ 12 ∷ 13 ∷ 14 ∷ []

abbrev OfSheet : Refusal → Type 0
OfSheet = Among (1 ∷ 2 ∷ 3 ∷ 4 ∷ 5 ∷ checks)

form-of-sheet : (refusal : Refusal) → OfForm refusal → OfSheet refusal
form-of-sheet refusal h =
    any_append (eqb (values refusal).number) (1 ∷ 2 ∷ 3 ∷ 4 ∷ 5 ∷ []) checks
    ∙ ap (λ b. b || any_of (eqb (values refusal).number) checks) h

checks-of-sheet : {at : ℕ} {c : Code} (refusal : Refusal) → OfChecks at c refusal → OfSheet refusal
unfolding any_of
checks-of-sheet refusal (OfChecks.six h) = refl
checks-of-sheet refusal (OfChecks.seven h) = refl
checks-of-sheet refusal (OfChecks.eight h) = refl
checks-of-sheet refusal (OfChecks.nine h) = refl
checks-of-sheet refusal (OfChecks.ten h) = refl
checks-of-sheet refusal OfChecks.eleven = refl
checks-of-sheet refusal OfChecks.twelve = refl
checks-of-sheet refusal OfChecks.thirteen = refl
checks-of-sheet refusal (OfChecks.fourteen s) = refl

reading-lawful : (c : Code) {fault : Option Refusal} → IfRefused OfSheet fault
    → IfRefused OfSheet (result_err (reading_of c fault).answer)
unfolding reading_of admitted refused_reading
reading-lawful c IfRefused.unrefused = IfRefused.unrefused
reading-lawful c (IfRefused.refused h) = IfRefused.refused h

checked-lawful : {Got : SheetRead → List ℕ → Type 0} {p : Parsed SheetRead} → Outcome Got OfForm p
    → IfRefused OfSheet (result_err (checked p).answer)
unfolding checked refused_reading
checked-lawful (gets {a = q} h) =
    reading-lawful q.code (law-of-fault checks-of-sheet (checks-refuse q.claim_at q.code))
checked-lawful (stops {refusal} h) = IfRefused.refused (form-of-sheet refusal h)

pub admission-refusal-numbers : AdmissionRefusalNumbers
unfolding read_sheet
admission-refusal-numbers s = law-of-refusal (checked-lawful (read-form-outcome s))
