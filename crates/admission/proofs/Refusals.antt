-- Which refusals the checks of a record give, and at which lines: 6 to 8 at the line of a generator, 9 and 10 at
-- that of a logical, 11 to 14 at the line given for w. A check over rows goes along them, its line with it.
use Rattle.std.specs.Prelude.{Option, Some, None}
use Rattle.std.specs.Option.{option_map}
use mathlib.Core.List.{List, [], ◌∷◌, ◌++◌}
use Prim.Native.Nat.{ℕ, ◌+◌, ◌-◌, ◌≤◌, ◌<◌}
use native.Mathlib.Omega.{arith}
use lib.ListN.{length}
use Rattle.letters.specs.declared.Letter.{Letter}
use Rattle.pauli.specs.declared.Pauli.{Pauli}
use Rattle.code_record.specs.declared.Code.{Code}
use Rattle.refusals.specs.declared.Family.{Family}
use Rattle.refusals.specs.declared.Refusal.{Refusal}
use Rattle.code_record.specs.Record.{generators, generators_at, logicals_at}
use Rattle.sheet.proofs.Numbers.{IfRefused, refuse_if-lawful, then-lawful}
use Rattle.stabilizer.specs.Checks.{first_fault, clash, dependence, generator_fault}
use Rattle.admission.specs.Admission.{fault_but_distance, code_fault}
use Rattle.admission.specs.Distance.{claimed_weight_fault, claimed_detected_fault, claimed_in_group_fault}
use Rattle.admission.specs.Distance.{logical_error_up_to, refuting_pair, distance_fault}
use Rattle.admission.specs.Logicals.{logicals, detected, mispaired, detected_fault, pairing_fault}

-- The lines at which the generators and the logicals of a record end in its sheet.
abbrev pub generators_end : Code → ℕ
generators_end c = generators_at c + length (generators c)

abbrev pub logicals_end : Code → ℕ
logicals_end c = logicals_at c + length (logicals c)

-- The refusals of the checks, by their numbers. w stands at the line `at`.
pub data OfChecks (at : ℕ) (c : Code) : Refusal → Type 0 where
  six : {line : ℕ} {family : Family} → line < generators_end c
      → OfChecks at c (Refusal.GeneratorsAnticommute line family)
  seven : {line : ℕ} {family : Family} → line < generators_end c → OfChecks at c (Refusal.MinusIdentity line family)
  eight : {line : ℕ} {family : Family} → line < generators_end c
      → OfChecks at c (Refusal.DependentGenerator line family)
  nine : {line : ℕ} {family : Family} → line < logicals_end c → OfChecks at c (Refusal.LogicalAnticommutes line family)
  ten : {line : ℕ} {family : Family} → line < logicals_end c → OfChecks at c (Refusal.LogicalPairing line family)
  eleven : OfChecks at c (Refusal.ClaimedWeight at)
  twelve : OfChecks at c (Refusal.ClaimedAnticommutes at)
  thirteen : OfChecks at c (Refusal.ClaimedInGroup at)
  fourteen : (s : List Letter) → OfChecks at c (Refusal.DistanceRefuted at (refuting_pair c.n s))

-- What holds of each refusal holds of the fault's.
pub law-of-fault : {Law Law' : Refusal → Type 0} → ((refusal : Refusal) → Law refusal → Law' refusal)
    → {fault : Option Refusal} → IfRefused Law fault → IfRefused Law' fault
law-of-fault law IfRefused.unrefused = IfRefused.unrefused
law-of-fault law (IfRefused.refused {refusal} h) = IfRefused.refused (law refusal h)

-- A check over rows that end at this line.
along-rows : {Law : Refusal → Type 0} {end : ℕ} (check : List Pauli → ℕ → Pauli → Option Refusal)
    → ((before : List Pauli) (line : ℕ) (P : Pauli) → line < end → IfRefused Law (check before line P))
    → (before : List Pauli) (at : ℕ) (rows : List Pauli) → at + length rows ≤ end
    → IfRefused Law (first_fault check before at rows)
unfolding first_fault
along-rows check each before at [] few = IfRefused.unrefused
along-rows check each before at (P ∷ rows) few =
    then-lawful (each before at P (omega arith)) (along-rows check each (before ++ P ∷ []) (at + 1) rows (omega arith))

module _ (at : ℕ) (c : Code) where
  clash-refuses : IfRefused (OfChecks at c) (first_fault clash [] (generators_at c) (generators c))
  unfolding clash
  clash-refuses = along-rows clash (λ before line P h. refuse_if-lawful _ _ (OfChecks.six h)) [] _ _ (omega arith)

  dependence-refuses : IfRefused (OfChecks at c) (first_fault dependence [] (generators_at c) (generators c))
  unfolding dependence
  dependence-refuses =
      along-rows dependence
      (λ before line P h. then-lawful (refuse_if-lawful _ _ (OfChecks.seven h))
      (refuse_if-lawful _ _ (OfChecks.eight h)))
      [] _ _ (omega arith)

  detected-refuses : IfRefused (OfChecks at c) (detected_fault c)
  unfolding detected_fault detected
  detected-refuses =
      along-rows (detected c) (λ before line P h. refuse_if-lawful _ _ (OfChecks.nine h)) [] _ _ (omega arith)

  pairing-refuses : IfRefused (OfChecks at c) (pairing_fault c)
  unfolding pairing_fault mispaired
  pairing-refuses =
      along-rows (mispaired c) (λ before line P h. refuse_if-lawful _ _ (OfChecks.ten h)) [] _ _ (omega arith)

  weight-refuses : IfRefused (OfChecks at c) (claimed_weight_fault at c)
  unfolding claimed_weight_fault
  weight-refuses = refuse_if-lawful _ _ OfChecks.eleven

  anticommuting-refuses : IfRefused (OfChecks at c) (claimed_detected_fault at c)
  unfolding claimed_detected_fault
  anticommuting-refuses = refuse_if-lawful _ _ OfChecks.twelve

  membership-refuses : IfRefused (OfChecks at c) (claimed_in_group_fault at c)
  unfolding claimed_in_group_fault
  membership-refuses = refuse_if-lawful _ _ OfChecks.thirteen

  distance-refuses : IfRefused (OfChecks at c) (distance_fault at c)
  unfolding distance_fault
  distance-refuses = go (logical_error_up_to c (c.d - 1))
    where
      go : (o : Option (List Letter))
          → IfRefused (OfChecks at c) (option_map (λ s. Refusal.DistanceRefuted at (refuting_pair c.n s)) o)
      go None = IfRefused.unrefused
      go (Some s) = IfRefused.refused (OfChecks.fourteen s)

  pub checks-refuse : IfRefused (OfChecks at c) (code_fault at c)
  unfolding code_fault fault_but_distance generator_fault
  checks-refuse =
      let from12 = then-lawful anticommuting-refuses membership-refuses in
      let from11 = then-lawful weight-refuses from12 in
      let from10 = then-lawful pairing-refuses from11 in
      let from9 = then-lawful detected-refuses from10 in
      let from6 = then-lawful (then-lawful clash-refuses dependence-refuses) from9 in
      then-lawful from6 distance-refuses
