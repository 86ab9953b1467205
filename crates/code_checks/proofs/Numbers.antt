-- The numbers with which the call refuses: those of its checks, one by one. Since 14 is that of the last alone, a
-- refusal with 14 is from there, and its two errors are those of the definition.
use Rattle.std.specs.Prelude.{Option, Some, None}
use Rattle.std.specs.Option.{option_map}
use Rattle.std.proofs.lemmas.Option.{same_Some}
use mathlib.Core.Bool.{◌||◌, false≢true}
use mathlib.Core.List.{List, [], ◌∷◌, ◌++◌}
use mathlib.Core.Path.{◌≡◌, refl, ap, subst, ◌∙◌}
use Prim.Native.Nat.{ℕ, ◌-◌}
use lib.Dec.{eqb}
use Rattle.letters.specs.declared.Letter.{Letter}
use Rattle.letters.specs.Lists.{any_of}
use Rattle.code_record.specs.declared.Code.{Code}
use Rattle.code_record.specs.Record.{limits_fault}
use Rattle.refusals.specs.declared.Refusal.{Refusal}
use Rattle.refusals.specs.Refusals.{values, ◌then◌}
use Rattle.sheet.specs.Statements.{Among}
use Rattle.sheet.proofs.Numbers.{IfRefused, law-of-refusal, refuse_if-lawful, then-lawful, limits-lawful}
use Rattle.stabilizer.proofs.Tests.{any_append}
use Rattle.stabilizer.proofs.Theorems.{first-lawful, generators-lawful}
use Rattle.admission.specs.Admission.{fault_but_distance, code_fault}
use Rattle.admission.specs.Distance.{claimed_weight_fault, claimed_detected_fault, claimed_in_group_fault}
use Rattle.admission.specs.Distance.{distance_fault}
use Rattle.admission.specs.Distance.{logical_error_up_to, refuting_pair}
use Rattle.admission.specs.Logicals.{detected, mispaired, detected_fault, pairing_fault}
use Rattle.admission.specs.Statements.{ShowsEarliest}
use Rattle.admission.proofs.RefutingPair.{refuting-pair-is-from-earliest}
use Rattle.code_checks.specs.Statements.{CodeRefusalNumbers, CodeRefusalShowsEarliest}
use Rattle.code_checks.proofs.Sequence.{then-assoc}

-- The numbers of the checks before 14.
abbrev early : List ℕ
early = 6 ∷ 7 ∷ 8 ∷ 9 ∷ 10 ∷ 11 ∷ 12 ∷ 13 ∷ []

-- The checks before 14, for a law that each of their refusals has.
but-distance : (Law : Refusal → Type 0) (at : ℕ) (c : Code)
    → ((refusal : Refusal) → Among early refusal → Law refusal)
    → IfRefused Law (fault_but_distance at c)
unfolding fault_but_distance detected_fault detected pairing_fault mispaired claimed_weight_fault claimed_detected_fault
    claimed_in_group_fault any_of
but-distance Law at c law =
    then-lawful (generators-lawful _ _ (λ at family. law _ refl) (λ at family. law _ refl) (λ at family. law _ refl))
    (then-lawful (first-lawful (detected c) (λ before at P. refuse_if-lawful _ _ (law _ refl)) [] _ _)
    (then-lawful (first-lawful (mispaired c) (λ before at P. refuse_if-lawful _ _ (law _ refl)) [] _ _)
    (then-lawful (refuse_if-lawful _ _ (law _ refl))
    (then-lawful (refuse_if-lawful _ _ (law _ refl)) (refuse_if-lawful _ _ (law _ refl))))))

-- ---- the numbers

more : (numbers : List ℕ) (refusal : Refusal) → Among early refusal → Among (early ++ numbers) refusal
more numbers refusal h =
    any_append (eqb (values refusal).number) early numbers
    ∙ ap (λ b. b || any_of (eqb (values refusal).number) numbers) h

distance-lawful : (at : ℕ) (c : Code) → IfRefused (Among (early ++ 14 ∷ 15 ∷ [])) (distance_fault at c)
unfolding distance_fault any_of
distance-lawful at c = go (logical_error_up_to c (c.d - 1))
  where
    go : (o : Option (List Letter))
        → IfRefused (Among (early ++ 14 ∷ 15 ∷ []))
        (option_map (λ s. Refusal.DistanceRefuted at (refuting_pair c.n s)) o)
    go None = IfRefused.unrefused
    go (Some s) = IfRefused.refused refl

pub code-refusal-numbers : CodeRefusalNumbers
unfolding code_fault any_of
code-refusal-numbers at c =
    law-of-refusal (then-lawful (limits-lawful c refl)
    (then-lawful (but-distance _ at c (more (14 ∷ 15 ∷ []))) (distance-lawful at c)))

-- ---- 14

-- Of the checks before 14, none refuses with it.
earlier-lawful : (at : ℕ) (c : Code) → IfRefused (Among (early ++ 15 ∷ []))
    (limits_fault c then fault_but_distance at c)
unfolding any_of
earlier-lawful at c = then-lawful (limits-lawful c refl) (but-distance _ at c (more (15 ∷ [])))

pub code-refusal-shows-earliest : CodeRefusalShowsEarliest
unfolding code_fault ◌then◌ any_of
code-refusal-shows-earliest at c line pair e =
    go (limits_fault c then fault_but_distance at c) (earlier-lawful at c)
    (then-assoc (limits_fault c) (fault_but_distance at c) (distance_fault at c) ∙ e)
  where
    go : (earlier : Option Refusal) → IfRefused (Among (early ++ 15 ∷ [])) earlier
        → (earlier then distance_fault at c) ≡ Some (Refusal.DistanceRefuted line pair)
        → ShowsEarliest at c (Refusal.DistanceRefuted line pair)
    go None lawful e = refuting-pair-is-from-earliest.of_record at c _ e
    go (Some refusal) (IfRefused.refused h) e =
        absurd (false≢true (subst (Among (early ++ 15 ∷ [])) (same_Some _ _ e) h))
