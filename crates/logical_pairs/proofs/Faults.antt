-- A check of the logicals one by one: what it finds from a place on is what it finds with the logical there, or else
-- from the next place on. Check 10 goes that way.
use Rattle.std.specs.Prelude.{Option, Some, None}
use mathlib.Core.Bool.{Bool, true, false}
use mathlib.Core.List.{List, []}
use mathlib.Core.Logic.{inl}
use mathlib.Core.Path.{◌≡◌, refl, ap, ap₂, sym, ◌∙◌}
use Prim.Native.Nat.{ℕ, ◌+◌, ◌*◌, ◌<◌, ◌≤◌}
use native.Mathlib.Omega.{arith}
use borrow.Author.Tests.{lt-ltb, le-ltb}
use lib.ListN.{length, take, get_or}
use lib.Seq.{take-length}
use Rattle.pauli.specs.declared.Pauli.{Pauli}
use Rattle.pauli.specs.Product.{identity}
use Rattle.code_record.specs.declared.Code.{Code}
use Rattle.code_record.specs.Record.{logicals_at, logical_count}
use Rattle.refusals.specs.declared.Family.{Family}
use Rattle.refusals.specs.declared.Refusal.{Refusal}
use Rattle.refusals.specs.declared.Refusal.TheVariants.{LogicalPairing}
use Rattle.refusals.specs.Refusals.{refuse_if, ◌then◌}
use Rattle.stabilizer.specs.Checks.{first_fault}
use Rattle.stabilizer.proofs.Walk.{Left, fault-start, fault-at, fault-end}
use Rattle.admission.specs.Logicals.{logicals, family_at, pairs_wrongly, mispaired, pairing_fault}
use Rattle.logical_pairs.specs.FaultAt.{fault_at}
use Rattle.logical_pairs.proofs.LogicalPlaces.{Known, Logical, logicals-length, before-length, family-after}

-- ---- the fault at a place

module _ (refusal : ℕ → Family → Refusal) {code : Code} {pairs xs : ℕ} (k : Known code pairs xs) (place : ℕ) where
  pub fault-inside : place < 2 * xs
      → Some (refusal (logicals_at code + place) (family_at pairs place)) ≡ fault_at refusal code place
  unfolding fault_at refuse_if
  fault-inside inside =
      let short : place < length (logicals code) = omega (arith, logicals-length k) in
      ap₂ (λ t (k : ℕ). refuse_if t (refusal (logicals_at code + place) (family_at k place)))
      (sym (lt-ltb place (length (logicals code)) short)) k.counted

  pub fault-behind : 2 * xs ≤ place → None ≡ fault_at refusal code place
  unfolding fault_at refuse_if
  fault-behind behind =
      let long : length (logicals code) ≤ place = omega (arith, logicals-length k) in
      ap (λ t. refuse_if t (refusal (logicals_at code + place) (family_at (logical_count code) place)))
      (sym (le-ltb place (length (logicals code)) long))

-- ---- a check of one logical, with the rows before it and its line, over all of them

module _ (check : List Pauli → ℕ → Pauli → Option Refusal) (code : Code) (xs place : ℕ) where
  -- What it finds from a place on, and all that it finds.
  abbrev pub From : Option Refusal
  From = Left check (logicals code) (2 * xs) place (logicals_at code)

  abbrev pub All : Option Refusal
  All = first_fault check [] (logicals_at code) (logicals code)

  pub from_first : {pairs : ℕ} → Known code pairs xs → place ≡ 0 → From ≡ All
  from_first k zero =
      let all : take (2 * xs) (logicals code) ≡ logicals code =
      ap (λ (m : ℕ). take m (logicals code)) (sym (logicals-length k)) ∙ take-length (logicals code) in
      fault-start check (logicals code) (2 * xs) place (logicals_at code) zero
      ∙ ap (first_fault check [] (logicals_at code)) all

  pub from-here : {pairs : ℕ} → Known code pairs xs → place < 2 * xs → {fault : Option Refusal}
      → fault ≡ check (take place (logicals code)) (logicals_at code + place) (get_or (logicals code) place identity)
      → (fault then Left check (logicals code) (2 * xs) (place + 1) (logicals_at code)) ≡ From
  from-here k inside e =
      ap (λ fault. fault then Left check (logicals code) (2 * xs) (place + 1) (logicals_at code)) e
      ∙ sym (fault-at check (logicals code) (2 * xs) place (logicals_at code) inside
      (omega (arith, logicals-length k)))

  pub from_end : 2 * xs ≤ place → None ≡ From
  from_end end = sym (fault-end check (logicals code) (2 * xs) place (logicals_at code) (inl end))

-- ---- 10

-- What is found from a place on is all that there is.
abbrev pub Ten : Code → ℕ → ℕ → Type 0
Ten code xs place = From (mispaired code) code xs place ≡ pairing_fault code

module _ {code : Code} {pairs xs : ℕ} (k : Known code pairs xs) where
  pub ten-first : Ten code xs 0
  unfolding pairing_fault
  ten-first = from_first (mispaired code) code xs 0 k refl

  pub ten-end : (place : ℕ) → 2 * xs ≤ place → Ten code xs place
      → fault_at LogicalPairing code place ≡ pairing_fault code
  ten-end place end rest =
      sym (fault-behind LogicalPairing k place end) ∙ from_end (mispaired code) code xs place end ∙ rest

module _ {code : Code} {pairs xs place : ℕ} {P : Pauli} (here : Logical code pairs xs place P) where
  ten-here : {t : Bool} → t ≡ pairs_wrongly pairs place 0 (take place (logicals code)) P
      → (refuse_if t (LogicalPairing (logicals_at code + place) (family_at pairs place))
      then From (mispaired code) code xs (place + 1)) ≡ From (mispaired code) code xs place
  unfolding mispaired
  ten-here test =
      let rows = take place (logicals code) in
      from-here (mispaired code) code xs place here.known here.within
      (ap₂ (λ t family. refuse_if t (LogicalPairing (logicals_at code + place) family))
      (test ∙ ap (λ (k : ℕ). pairs_wrongly k place 0 rows P) here.known.counted
      ∙ ap₂ (λ (m : ℕ) P. pairs_wrongly (logical_count code) m 0 rows P)
      (before-length here.known place here.within) here.row)
      (family-after here.known place here.within))

  pub ten-found : true ≡ pairs_wrongly pairs place 0 (take place (logicals code)) P → Ten code xs place
      → fault_at LogicalPairing code place ≡ pairing_fault code
  unfolding refuse_if ◌then◌
  ten-found test rest =
      sym (fault-inside LogicalPairing here.known place here.within) ∙ ten-here test ∙ rest

  pub ten-passed : false ≡ pairs_wrongly pairs place 0 (take place (logicals code)) P → Ten code xs place
      → Ten code xs (place + 1)
  unfolding refuse_if ◌then◌
  ten-passed test rest = ten-here test ∙ rest
