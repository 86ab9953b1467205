-- Check 9 over the logicals one by one: what it finds from a place on is what it finds with the logical there, or else
-- from the next place on.
use mathlib.Core.Bool.{Bool, true, false}
use mathlib.Core.Path.{◌≡◌, refl, ap, ap₂, sym, ◌∙◌}
use Prim.Native.Nat.{ℕ, ◌+◌, ◌*◌, ◌<◌, ◌≤◌}
use native.Mathlib.Omega.{arith}
use Rattle.letters.specs.Lists.{any_of}
use Rattle.pauli.specs.declared.Pauli.{Pauli}
use Rattle.pauli.specs.Product.{anticommutes}
use Rattle.code_record.specs.declared.Code.{Code}
use Rattle.code_record.specs.Record.{most_qubits, pair_count, generators, logicals_at, Sized}
use Rattle.refusals.specs.declared.Refusal.TheVariants.{LogicalAnticommutes}
use Rattle.refusals.specs.Refusals.{refuse_if, ◌then◌}
use Rattle.admission.specs.Logicals.{family_at, detected, detected_fault}
use Rattle.logical_pairs.specs.FaultAt.{fault_at}
use Rattle.logical_pairs.proofs.LogicalPlaces.{Known, known, Logical, family-after}
use Rattle.logical_pairs.proofs.Faults.{fault-inside, fault-behind, From, from_first, from-here, from_end}

-- A record with no more qubits than a sheet: all its logicals have room in its arrays, and where there are any so have
-- its generators.
pub record Within (code : Code) (pairs : ℕ) : Type 0 where
  pub known : Known code pairs pairs
  pub few : pairs ≤ most_qubits
  pub few_rows : 0 < pairs → code.r < most_qubits

pub within : (code : Code) → Sized code → code.n ≤ most_qubits → {pairs : ℕ}
    → pairs ≡ pair_count code.n code.r → Within code pairs
unfolding pair_count
within code sized limited {pairs} counted =
    let few : pairs ≤ most_qubits = omega (arith, limited, counted) in
    record {
      known = known code sized counted (omega (arith, few));
      few = few;
      few_rows = λ some. omega (arith, limited, counted);
    }

-- What is found from a place on is all that there is.
abbrev pub Nine : Code → ℕ → ℕ → Type 0
Nine code xs place = From (detected code) code xs place ≡ detected_fault code

module _ {code : Code} {pairs xs : ℕ} (k : Known code pairs xs) where
  pub nine-first : Nine code xs 0
  unfolding detected_fault
  nine-first = from_first (detected code) code xs 0 k refl

  pub nine-end : (place : ℕ) → 2 * xs ≤ place → Nine code xs place
      → fault_at LogicalAnticommutes code place ≡ detected_fault code
  nine-end place end rest =
      sym (fault-behind LogicalAnticommutes k place end) ∙ from_end (detected code) code xs place end ∙ rest

module _ {code : Code} {pairs xs place : ℕ} {P : Pauli} (here : Logical code pairs xs place P) where
  nine-here : {t : Bool} → t ≡ any_of (anticommutes P) (generators code)
      → (refuse_if t (LogicalAnticommutes (logicals_at code + place) (family_at pairs place))
      then From (detected code) code xs (place + 1)) ≡ From (detected code) code xs place
  unfolding detected
  nine-here test =
      from-here (detected code) code xs place here.known here.within
      (ap₂ (λ t family. refuse_if t (LogicalAnticommutes (logicals_at code + place) family))
      (test ∙ ap (λ P. any_of (anticommutes P) (generators code)) here.row)
      (family-after here.known place here.within))

  pub nine-found : true ≡ any_of (anticommutes P) (generators code) → Nine code xs place
      → fault_at LogicalAnticommutes code place ≡ detected_fault code
  unfolding refuse_if ◌then◌
  nine-found test rest =
      sym (fault-inside LogicalAnticommutes here.known place here.within) ∙ nine-here test ∙ rest

  pub nine-passed : false ≡ any_of (anticommutes P) (generators code) → Nine code xs place
      → Nine code xs (place + 1)
  unfolding refuse_if ◌then◌
  nine-passed test rest = nine-here test ∙ rest
