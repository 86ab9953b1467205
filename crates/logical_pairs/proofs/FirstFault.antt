-- 10 is found at the first logical that pairs wrongly.
use mathlib.Core.Bool.{Bool, true, false}
use mathlib.Core.Path.{◌≡◌, refl, ap₂, sym, subst, ◌∙◌}
use Prim.Native.Nat.{ℕ, zero, suc, ◌+◌, ◌*◌, min}
use native.Mathlib.Numerals.{add-one}
use native.Mathlib.Omega.{arith}
use lib.ListN.{length, take, get_or}
use Rattle.pauli.specs.declared.Pauli.{Pauli}
use Rattle.pauli.specs.Product.{identity}
use Rattle.code_record.specs.declared.Code.{Code}
use Rattle.code_record.specs.Record.{row_room, logical_count}
use Rattle.refusals.specs.declared.Refusal.TheVariants.{LogicalPairing}
use Rattle.admission.specs.Logicals.{logicals, pairs_wrongly, pairing_fault}
use Rattle.logical_pairs.specs.FaultAt.{fault_at}
use Rattle.logical_pairs.specs.FirstPlace.{first_place, unpaired_at, first_unpaired}
use Rattle.logical_pairs.specs.Statements.{PairingFaultIsAtFirst}
use Rattle.logical_pairs.proofs.LogicalPlaces.{Known, Logical, logicals-length}
use Rattle.logical_pairs.proofs.Faults.{Ten, ten-first, ten-found, ten-passed, ten-end}

-- What a logical's row tells, at its place.
pub unpaired-told : {code : Code} {pairs xs place : ℕ} {P : Pauli} → Logical code pairs xs place P → {t : Bool}
    → t ≡ pairs_wrongly pairs place 0 (take place (logicals code)) P → unpaired_at code place ≡ t
unfolding unpaired_at
unpaired-told {code} {pairs} {xs} {place} here test =
    sym (test ∙ ap₂ (λ (k : ℕ) P. pairs_wrongly k place 0 (take place (logicals code)) P) here.known.counted
    here.row)

module _ (code : Code) (xs : ℕ) (k : Known code (logical_count code) xs) where
  from_place : (left place : ℕ) → place + left ≡ 2 * xs → Ten code xs place
      → fault_at LogicalPairing code (first_place (unpaired_at code) place left) ≡ pairing_fault code
  unfolding first_place
  from_place zero place all rest = ten-end k place (omega (arith, all)) rest
  from_place (suc left) place all rest =
      by (unpaired_at code place) refl (λ later. from_place left (suc place) (omega (arith, all)) later)
    where
      here : Logical code (logical_count code) xs place (get_or (logicals code) place identity)
      here = record { known = k; within = omega (arith, all); row = refl }

      by : (t : Bool) → t ≡ unpaired_at code place
          → (Ten code xs (suc place)
          → fault_at LogicalPairing code (first_place (unpaired_at code) (suc place) left) ≡ pairing_fault code)
          → fault_at LogicalPairing code
          (elim t [ true ↦ place | false ↦ first_place (unpaired_at code) (suc place) left ]) ≡ pairing_fault code
      by true e later = ten-found here (e ∙ unpaired-told here refl) rest
      by false e later =
          later (subst (Ten code xs) (add-one place) (ten-passed here (e ∙ unpaired-told here refl) rest))

pub pairing-fault-is-at-first : PairingFaultIsAtFirst
unfolding first_unpaired
pairing-fault-is-at-first c sized =
    let xs = min (logical_count c) row_room in
    let k : Known c (logical_count c) xs =
    record { sized = sized; counted = refl; held = refl; few = omega arith } in
    from_place c xs k (length (logicals c)) 0 (omega (arith, logicals-length k)) (ten-first k)
