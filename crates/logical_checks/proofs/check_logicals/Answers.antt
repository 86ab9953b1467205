-- 15 comes first, then 9, and 10 where 9 finds no logical at fault.
use Rattle.std.specs.Prelude.{Option, Some, None}
use Rattle.std.proofs.lemmas.Result.{err_from_is_err_and}
use mathlib.Core.Path.{◌≡◌, ap, ap₂, ◌∙◌}
use Prim.Native.Nat.{ℕ, ◌+◌, ◌*◌, ◌<◌, ◌≤◌}
use native.Mathlib.Omega.{arith}
use Rattle.code_record.specs.declared.Code.{Code}
use Rattle.code_record.specs.Record.{generators_at, logicals_at, qubit_fault}
use Rattle.code_record.proofs.ArrayLengths.{sized_of}
use Rattle.refusals.specs.declared.Family.{Family}
use Rattle.refusals.specs.declared.Refusal.{Refusal}
use Rattle.refusals.specs.declared.Refusal.TheVariants.{LogicalAnticommutes, LogicalPairing}
use Rattle.refusals.specs.Refusals.{◌then◌}
use Rattle.admission.specs.Logicals.{family_at, detected_fault, pairing_fault}
use Rattle.logical_pairs.specs.FaultAt.{fault_at}
use Rattle.logical_pairs.specs.FirstPlace.{first_unpaired}
use Rattle.logical_pairs.proofs.FirstFault.{pairing-fault-is-at-first}
use Rattle.logical_pairs.proofs.Faults.{fault-inside, fault-behind}
use Rattle.logical_checks.proofs.Detected.{Within, within}
use Rattle.logical_checks.proofs.Limits.{passed-few}
use Rattle.logical_checks.proofs.check_logicals.Goals as goal

module _ {code : Code} {pairs : ℕ} (w : Within code pairs) where
  -- The line of a logical, by the line of the first generator.
  early : {start place : ℕ} → start ≡ generators_at code → place < 2 * pairs → start + code.r + place ≤ 74
  unfolding generators_at
  early first inside = omega (arith, first, inside, w.few, w.few_rows (omega (arith, inside)))

  -- The refusal at a place is the fault there.
  named : (refusal : ℕ → Family → Refusal) {start place : ℕ} → start ≡ generators_at code → place < 2 * pairs
      → {family : Family} → family ≡ family_at pairs place
      → Some (refusal (start + code.r + place) family) ≡ fault_at refusal code place
  unfolding logicals_at
  named refusal {start} {place} first inside at =
      ap₂ (λ (start : ℕ) family. Some (refusal (start + code.r + place) family)) first at
      ∙ fault-inside refusal w.known place inside

  -- The place at which 10 is found.
  ten-told : {place : ℕ} → place ≡ first_unpaired code → fault_at LogicalPairing code place ≡ pairing_fault code
  ten-told at = ap (fault_at LogicalPairing code) at ∙ pairing-fault-is-at-first code w.known.sized

  -- 15 passes, and the first logical that 9 finds stands at a place.
  module _ (passes : None ≡ qubit_fault code.n) (place : ℕ)
      (nine : fault_at LogicalAnticommutes code place ≡ detected_fault code) where
    decided : {fault : Option Refusal} → fault ≡ fault_at LogicalAnticommutes code place
        → (fault then pairing_fault code) ≡ (qubit_fault code.n then detected_fault code then pairing_fault code)
    unfolding ◌then◌
    decided e =
        ap (λ fault. fault then pairing_fault code) (e ∙ nine)
        ∙ ap (λ fault. fault then detected_fault code then pairing_fault code) passes

    -- 9 decides where it finds a fault, and otherwise 10 does.
    nine-refuses : {refusal : Refusal} → Some refusal ≡ fault_at LogicalAnticommutes code place
        → Some refusal ≡ (qubit_fault code.n then detected_fault code then pairing_fault code)
    unfolding ◌then◌
    nine-refuses e = decided e

    nine-passes : 2 * pairs ≤ place
        → pairing_fault code ≡ (qubit_fault code.n then detected_fault code then pairing_fault code)
    unfolding ◌then◌
    nine-passes behind = decided (fault-behind LogicalAnticommutes w.known place behind)

pub returns-in_err-check_qubits : goal.returns-in_err-check_qubits
unfolding ◌then◌
returns-in_err-check_qubits c =
    let p = err_from_is_err_and c.from_residual.result c.from_residual.ensures.1 in
    rw (p.1, p.2) (ap (λ fault. fault then detected_fault c.args.code then pairing_fault c.args.code)
    c.in_err-check_qubits.ensures)

pub first_detected-detected-requires : goal.first_detected-detected-requires
first_detected-detected-requires c = passed-few c.args.code.n c.in_ok-check_qubits.ensures

pub overflow_mul-pairs : goal.overflow_mul-pairs
overflow_mul-pairs c =
    let code = c.args.code in
    let few = passed-few code.n c.in_ok-check_qubits.ensures in
    let w = within code (sized_of code c.well_formed.0) few c.pair_count-pairs.ensures in
    record { fits = omega (arith, w.few) }

pub overflow_add-result : goal.overflow_add-result
overflow_add-result c =
    let code = c.args.code in
    let few = passed-few code.n c.in_ok-check_qubits.ensures in
    let w = within code (sized_of code c.well_formed.0) few c.pair_count-pairs.ensures in
    record { fits = omega (arith, early w c.generators_at.ensures c.if-detected-pairs.true) }

pub overflow_add-result-then-detected-pairs : goal.overflow_add-result-then-detected-pairs
overflow_add-result-then-detected-pairs c =
    let code = c.args.code in
    let few = passed-few code.n c.in_ok-check_qubits.ensures in
    let w = within code (sized_of code c.well_formed.0) few c.pair_count-pairs.ensures in
    record { fits = omega (arith, early w c.generators_at.ensures c.if-detected-pairs.true) }

pub returns-then-detected-pairs : goal.returns-then-detected-pairs
returns-then-detected-pairs c =
    let code = c.args.code in
    let few = passed-few code.n c.in_ok-check_qubits.ensures in
    let w = within code (sized_of code c.well_formed.0) few c.pair_count-pairs.ensures in
    nine-refuses w c.in_ok-check_qubits.ensures _ c.first_detected-detected.ensures
    (named w LogicalAnticommutes c.generators_at.ensures c.if-detected-pairs.true c.family_at.ensures)

pub overflow_add-result-then-unpaired-pairs : goal.overflow_add-result-then-unpaired-pairs
overflow_add-result-then-unpaired-pairs c =
    let code = c.args.code in
    let few = passed-few code.n c.in_ok-check_qubits.ensures in
    let w = within code (sized_of code c.well_formed.0) few c.pair_count-pairs.ensures in
    record { fits = omega (arith, early w c.generators_at-then-unpaired-pairs.ensures c.if-unpaired-pairs.true) }

pub overflow_add-result-then-unpaired-pairs-2 : goal.overflow_add-result-then-unpaired-pairs-2
overflow_add-result-then-unpaired-pairs-2 c =
    let code = c.args.code in
    let few = passed-few code.n c.in_ok-check_qubits.ensures in
    let w = within code (sized_of code c.well_formed.0) few c.pair_count-pairs.ensures in
    record { fits = omega (arith, early w c.generators_at-then-unpaired-pairs.ensures c.if-unpaired-pairs.true) }

pub returns-then-unpaired-pairs : goal.returns-then-unpaired-pairs
returns-then-unpaired-pairs c =
    let code = c.args.code in
    let few = passed-few code.n c.in_ok-check_qubits.ensures in
    let w = within code (sized_of code c.well_formed.0) few c.pair_count-pairs.ensures in
    named w LogicalPairing c.generators_at-then-unpaired-pairs.ensures c.if-unpaired-pairs.true
    c.family_at-then-unpaired-pairs.ensures
    ∙ ten-told w c.first_unpaired-unpaired.ensures
    ∙ nine-passes w c.in_ok-check_qubits.ensures _ c.first_detected-detected.ensures c.if-detected-pairs.false

pub returns : goal.returns
returns c =
    let code = c.args.code in
    let few = passed-few code.n c.in_ok-check_qubits.ensures in
    let w = within code (sized_of code c.well_formed.0) few c.pair_count-pairs.ensures in
    fault-behind LogicalPairing w.known c.first_unpaired-unpaired.result c.if-unpaired-pairs.false
    ∙ ten-told w c.first_unpaired-unpaired.ensures
    ∙ nine-passes w c.in_ok-check_qubits.ensures _ c.first_detected-detected.ensures c.if-detected-pairs.false
