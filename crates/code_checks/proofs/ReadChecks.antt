-- The checks of a record that was read, by the one that finds a fault first. Of a record within its limits they are all
-- the checks of a record.
use Rattle.std.specs.Prelude.{[], Option, Some, None, Result, Ok, Err}
use Rattle.std.specs.Result.{result_err}
use mathlib.Core.Bool.{true, false, not}
use mathlib.Core.Path.{◌≡◌, refl, ap, sym, ◌∙◌}
use Prim.Native.Nat.{ℕ}
use Rattle.code_record.specs.declared.Code.{Code}
use Rattle.code_record.specs.Record.{generators, within_limits, limits_fault}
use Rattle.refusals.specs.declared.Refusal.{Refusal}
use Rattle.refusals.specs.Refusals.{refuse_if, ◌then◌}
use Rattle.stabilizer.specs.Canonical.{canonical_generators}
use Rattle.elimination.specs.declared.Elimination.{Elimination}
use Rattle.elimination.specs.Answers.{eliminated, rows_elimination}
use Rattle.elimination.proofs.CheckOrder.{record-within}
use Rattle.admission.specs.Admission.{code_fault}
use Rattle.code_checks.specs.Answers.{checked_code, later_fault, read_fault}
use Rattle.code_checks.proofs.CheckOrder.{generators-refused, later-decides, checked-fault}
use Rattle.code_checks.proofs.Sequence.{refused-first, passed_first}

module _ (at : ℕ) (c : Code) where
  module _ {e : Elimination} (known : e ≡ rows_elimination c.n c.r c.g) where
    abbrev first : result_err e.answer ≡ result_err (rows_elimination c.n c.r c.g).answer
    first = ap (λ r. result_err r.answer) known

    pub generators-decide : {refusal : Refusal} → e.answer ≡ Err refusal
        → result_err e.answer ≡ read_fault at c
    unfolding read_fault
    generators-decide told =
        refused-first _ (later_fault at c (rows_elimination c.n c.r c.g).reduced) first told

    pub later-found : e.answer ≡ Ok tt → (checked : Result Unit Refusal)
        → result_err checked ≡ later_fault at c e.reduced → result_err checked ≡ read_fault at c
    unfolding read_fault
    later-found passed checked found =
        found ∙ ap (λ r. later_fault at c r.reduced) known
        ∙ passed_first _ (later_fault at c (rows_elimination c.n c.r c.g).reduced) first passed

  -- ---- with the limits of the record

  pub record-outside : within_limits c ≡ false → eliminated (Some Refusal.RecordLimits) 0 [] ≡ checked_code at c
  unfolding checked_code limits_fault refuse_if ◌then◌ eliminated
  record-outside outside =
      ap (λ t. eliminated (refuse_if (not t) Refusal.RecordLimits then code_fault at c) c.n
      (canonical_generators c.n (generators c))) (sym outside)

  pub read-is-checked : within_limits c ≡ true → read_fault at c ≡ (limits_fault c then code_fault at c)
  read-is-checked within = go e.answer refl (later_fault at c e.reduced) refl
    where
      e : Elimination
      e = rows_elimination c.n c.r c.g

      by-later : (passed : e.answer ≡ Ok tt) (checked : Result Unit Refusal)
          → result_err checked ≡ later_fault at c e.reduced
          → read_fault at c ≡ (limits_fault c then code_fault at c)
      by-later passed checked found =
          sym (later-found refl passed checked found) ∙ later-decides at c (record-within c within) passed checked found

      go : (answer : Result Unit Refusal) → e.answer ≡ answer → (fault : Option Refusal)
          → later_fault at c e.reduced ≡ fault → read_fault at c ≡ (limits_fault c then code_fault at c)
      go (Err refusal) told fault found =
          sym (generators-decide refl told)
          ∙ checked-fault at c (generators-refused at c (record-within c within) told) refl
      go (Ok tt) told None found = by-later told (Ok tt) (sym found)
      go (Ok tt) told (Some refusal) found = by-later told (Err refusal) (sym found)
