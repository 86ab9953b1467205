-- An admitted sheet is the text of its record, and its claimed distance is true: w is a logical error of weight d,
-- by 11 to 13, and the search of 14 found none below. All of it is read off the reading's clauses.
use Rattle.std.specs.Prelude.{Option, Some, None, Ok}
use mathlib.Core.Bool.{true, false≢true}
use mathlib.Core.List.{List, [], ◌∷◌, append-nil}
use mathlib.Core.Path.{◌≡◌, refl, ap, sym, ◌∙◌}
use Prim.Native.Nat.{ℕ}
use native.Mathlib.Omega.{arith}
use borrow.Author.Tests.{eqb-true, not-false}
use Rattle.letters.specs.Lists.{all_of}
use Rattle.pauli.specs.Product.{commutes, anticommutes, weight}
use Rattle.code_record.specs.declared.Code.{Code}
use Rattle.refusals.specs.declared.Refusal.{Refusal}
use Rattle.code_record.specs.Record.{generators, generators_at, is_claim, on_qubits, within_limits}
use Rattle.refusals.specs.Refusals.{◌then◌}
use Rattle.code_record.proofs.Limits.{both, limits}
use Rattle.sheet.specs.Reader.{SheetRead, Parsed, got, stop, continue, read_lines, read_form, nothing_behind}
use Rattle.sheet.specs.Statements.{ReadIsLawful}
use Rattle.sheet.proofs.ReadBack.{reads-are-lawful, write-after-read}
use Rattle.stabilizer.specs.Checks.{generator_fault}
use Rattle.stabilizer.proofs.All.{all_map, all-of, none_of}
use Rattle.stabilizer.proofs.Faults.{nothing_then, unrefused}
use Rattle.stabilizer.proofs.Members.{membership-is-decided}
use Rattle.admission.specs.Admission.{AdmissibleButForDistance, fault_but_distance, code_fault}
use Rattle.admission.specs.Admission.{refused_reading, admitted, reading_of, checked, read_sheet}
use Rattle.admission.specs.Distance.{LogicalError, distance_fault}
use Rattle.admission.specs.Distance.{claimed_weight_fault, claimed_detected_fault, claimed_in_group_fault}
use Rattle.admission.specs.Logicals.{detected_fault, pairing_fault}
use Rattle.admission.specs.Statements.{AdmittedSheetReturns, AdmittedDistanceIsTrue}
use Rattle.admission.proofs.BelowDistance.{logical-errors-weigh-d}

-- ---- a sheet read by itself

-- What passes by itself has nothing behind its lines.
pub form-has-nothing-behind : (s : List ℕ) (q : SheetRead) (rest : List ℕ) → read_form s ≡ got q rest
    → read_lines s ≡ got q []
unfolding read_form continue nothing_behind
form-has-nothing-behind s q rest = go (read_lines s)
  where
    go : (p : Parsed SheetRead) → continue p nothing_behind ≡ got q rest → p ≡ got q []
    go (got q' []) e = cc
    go (got q' (b ∷ behind)) e = cc
    go (stop refusal) e = cc

pub form-lawful : (s : List ℕ) (q : SheetRead) → read_form s ≡ got q [] → ReadIsLawful q
form-lawful s q form = reads-are-lawful s q [] (form-has-nothing-behind s q [] form)

-- The sheet has the lines of this record, w at this line, and no check refuses it.
pub record AdmittedAs (s : List ℕ) (c : Code) : Type 0 where
  pub claim_at : ℕ
  pub lines : read_lines s ≡ got (record { code = c; claim_at = claim_at }) []
  pub faultless : code_fault claim_at c ≡ None

admitted-has-no-fault : (c : Code) (fault : Option Refusal) → (reading_of c fault).answer ≡ Ok tt
    → fault ≡ None
unfolding reading_of refused_reading
admitted-has-no-fault c None h = refl
admitted-has-no-fault c (Some refusal) h = cc

pub admitted-faultless : (s : List ℕ) (q : SheetRead) → read_form s ≡ got q []
    → (read_sheet s).answer ≡ Ok tt → code_fault q.claim_at q.code ≡ None
unfolding read_sheet checked
admitted-faultless s q form h =
    admitted-has-no-fault q.code _ (ap (λ (p : Parsed SheetRead). (checked p).answer) (sym form) ∙ h)

pub admitted-as : (s : List ℕ) → (read_sheet s).answer ≡ Ok tt → AdmittedAs s (read_sheet s).code
unfolding read_sheet checked reading_of refused_reading admitted
admitted-as s = go (read_form s) refl
  where
    go : (p : Parsed SheetRead) → read_form s ≡ p → (checked p).answer ≡ Ok tt
        → AdmittedAs s (checked p).code
    go (got q rest) form h =
        let faultless = admitted-has-no-fault q.code (code_fault q.claim_at q.code) h in
        rw faultless (record {
          claim_at = q.claim_at;
          lines = form-has-nothing-behind s q rest form;
          faultless = faultless;
        })
    go (stop refusal) form h = let never : ◌≡◌ {A = ℕ} 0 1 = cc in absurd (omega arith)

-- What is admissible but for distance is read by its distance alone.
pub read-by-distance : (s : List ℕ) (q : SheetRead) → AdmissibleButForDistance s q
    → read_sheet s ≡ reading_of q.code (distance_fault q.claim_at q.code)
unfolding read_sheet checked code_fault ◌then◌
read-by-distance s q lawful = rw lawful.form (rw (lawful.checks, code_fault))

-- ---- the record of an admitted sheet

module _ (s : List ℕ) (c : Code) (a : AdmittedAs s c) where
  pub admitted-lawful : ReadIsLawful (record { code = c; claim_at = a.claim_at })
  admitted-lawful = reads-are-lawful s _ [] a.lines

  no-fault : (fault_but_distance a.claim_at c ≡ None) × (distance_fault a.claim_at c ≡ None)
  unfolding code_fault
  no-fault = nothing_then (fault_but_distance a.claim_at c) (distance_fault a.claim_at c) a.faultless

  pub no-distance-fault : distance_fault a.claim_at c ≡ None
  no-distance-fault = no-fault.1

pub admitted-sheet-returns : AdmittedSheetReturns
admitted-sheet-returns s h = rw append-nil at (write-after-read s _ [] (admitted-as s h).lines)

-- ---- the claimed logical error

-- Where 11 to 13 find nothing, w is a logical error of weight d.
module _ (at : ℕ) (c : Code) (within : within_limits c ≡ true) (passed : fault_but_distance at c ≡ None) where
  claim-passes : (claimed_weight_fault at c ≡ None) × (claimed_detected_fault at c ≡ None)
      × (claimed_in_group_fault at c ≡ None)
  unfolding fault_but_distance
  claim-passes =
      let behind8 = (nothing_then (generator_fault (generators_at c) (generators c)) _ passed).1 in
      let behind9 = (nothing_then (detected_fault c) _ behind8).1 in
      let behind10 = (nothing_then (pairing_fault c) _ behind9).1 in
      let from11 = nothing_then (claimed_weight_fault at c) _ behind10 in
      let from12 = nothing_then (claimed_detected_fault at c) _ from11.1 in
      (from11.0, from12.0, from12.1)

  claim-weighs-d : weight c.w ≡ c.d
  unfolding claimed_weight_fault
  claim-weighs-d = eqb-true (weight c.w) c.d (not-false _ (unrefused _ _ claim-passes.0))

  claim-commutes : all_of (commutes c.w) (generators c) ≡ true
  unfolding claimed_detected_fault anticommutes
  claim-commutes =
      (all-of (commutes c.w) (generators c)).1
      (all_map (λ g e. not-false (commutes c.w g) e) (generators c)
      (none_of (anticommutes c.w) (generators c) (unrefused _ _ claim-passes.1)))

  claim-is-logical : LogicalError c c.w
  unfolding claimed_in_group_fault is_claim
  claim-is-logical = record {
    on_code = (both (on_qubits c.n c.w) _ (limits c within).claim).0;
    undetected = claim-commutes;
    outside = λ m. let member = (membership-is-decided (generators c) c.w).1 m in
        false≢true (sym (unrefused _ _ claim-passes.2) ∙ member);
  }

pub admitted-distance-is-true : AdmittedDistanceIsTrue
admitted-distance-is-true s h =
    let c = (read_sheet s).code in
    let a = admitted-as s h in
    let within = (admitted-lawful s c a).limits in
    let passed = (no-fault s c a).0 in
    record {
      reached = (c.w, claim-is-logical _ c within passed, claim-weighs-d _ c within passed);
      least = logical-errors-weigh-d _ c (no-distance-fault s c a);
    }
