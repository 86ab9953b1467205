-- The checks of a record in their order. With canonical generators the checks of w are those of the definition, since
-- these generators tell the group's members; and so is that of the distance. And what the answer of all checks tells.
use Rattle.std.specs.Prelude.{Some, Option, Result, Ok, Err}
use Rattle.std.specs.Result.{result_err}
use mathlib.Core.List.{[]}
use mathlib.Core.Path.{◌≡◌, refl, ap, ap₂, sym, ◌∙◌}
use Prim.Native.Nat.{ℕ}
use Rattle.code_record.specs.declared.Code.{Code}
use Rattle.code_record.specs.Record.{generators, generators_at, limits_fault, qubit_fault}
use Rattle.refusals.specs.declared.Refusal.{Refusal}
use Rattle.refusals.specs.Refusals.{◌then◌}
use Rattle.stabilizer.specs.Canonical.{canonical_generators}
use Rattle.stabilizer.specs.Checks.{generator_fault, group_fault}
use Rattle.reduced_rows.specs.Rows.{reduced_of}
use Rattle.elimination.specs.declared.Elimination.{Elimination}
use Rattle.elimination.specs.Answers.{eliminated, elimination}
use Rattle.elimination.proofs.Answered.{fault-answered, rows-answered, refusal-answered}
use Rattle.elimination.proofs.Passed.{fault-told, contains-decides-membership}
use Rattle.admission.specs.Admission.{fault_but_distance, code_fault}
use Rattle.admission.specs.Distance.{claimed_weight_fault, claimed_detected_fault, claimed_in_group_fault}
use Rattle.admission.specs.Distance.{distance_fault}
use Rattle.admission.specs.Logicals.{detected_fault, pairing_fault}
use Rattle.logical_checks.proofs.Limits.{within-limits-passes}
use Rattle.claim_checks.specs.Claim.{claim_fault}
use Rattle.claim_checks.proofs.Theorems.{claim-checks-are-of-admission}
use Rattle.distance.specs.Search.{distance_by}
use Rattle.distance.proofs.Refuted.{distance-is-checked}
use Rattle.code_checks.specs.Answers.{checked_code}
use Rattle.code_checks.proofs.Sequence.{refused-first, passed_first, first-none, in_order}

module _ (at : ℕ) (c : Code) {e : Elimination} (known : e ≡ elimination c) where
  abbrev logicals : Option Refusal
  logicals = detected_fault c then pairing_fault c

  abbrev weights : Option Refusal
  weights =
      (claimed_weight_fault at c then claimed_detected_fault at c then claimed_in_group_fault at c) then distance_fault
      at c

  whole : (group_fault c then logicals then weights) ≡ (limits_fault c then code_fault at c)
  unfolding group_fault code_fault fault_but_distance
  whole = in_order (limits_fault c) (generator_fault (generators_at c) (generators c)) _ _ _ _

  -- An elimination whose fault is the first of all checks answers for all of them.
  as-checked : group_fault c ≡ (limits_fault c then code_fault at c) → e ≡ checked_code at c
  unfolding elimination checked_code
  as-checked same =
      known ∙ ap (λ fault. eliminated fault c.n (canonical_generators c.n (generators c))) same

  pub generators-refused : {refusal : Refusal} → e.answer ≡ Err refusal → e ≡ checked_code at c
  generators-refused told =
      let answered = fault-told c known refl in
      as-checked (sym answered ∙ refused-first (group_fault c) (logicals then weights) answered told ∙ whole)

  module _
      (passed : e.answer ≡ Ok tt) (checked : Result Unit Refusal)
      (found : result_err checked
      ≡ ((qubit_fault c.n then logicals) then claim_fault at c e.reduced then distance_by at c e.reduced)) where
    -- A record that passes 6 to 8 is within limits, so the logicals are refused for no other fault than theirs.
    within : (qubit_fault c.n then logicals) ≡ logicals
    unfolding ◌then◌ group_fault
    within =
        ap (λ l. l then logicals)
        (within-limits-passes c
        (first-none (limits_fault c) (generator_fault (generators_at c) (generators c))
        (sym (fault-told c known passed))))

    by_rows : (claim_fault at c e.reduced then distance_by at c e.reduced) ≡ weights
    by_rows =
        let rows = ap (λ r. r.reduced) known in
        let passes = sym (ap (λ r. r.answer) known) ∙ passed in
        ap₂ ◌then◌ (ap (claim_fault at c) rows
        ∙ claim-checks-are-of-admission at c (elimination c).reduced (contains-decides-membership c passes c.w))
        (ap (distance_by at c) rows ∙ distance-is-checked at c passes)

    pub later-decides : result_err checked ≡ (limits_fault c then code_fault at c)
    later-decides =
        found ∙ ap₂ ◌then◌ within by_rows
        ∙ passed_first (group_fault c) (logicals then weights) (fault-told c known refl) passed ∙ whole

    pub later-refused : {refusal : Refusal} → checked ≡ Err refusal
        → eliminated (Some refusal) 0 [] ≡ checked_code at c
    unfolding checked_code eliminated
    later-refused told = refusal-answered _ _ _ refl refl (ap result_err (sym told) ∙ later-decides)

    pub later-passed : checked ≡ Ok tt → e ≡ checked_code at c
    later-passed told =
        as-checked (sym (fault-told c known passed) ∙ ap result_err (sym told) ∙ later-decides)

-- ---- what the answer tells

module _ (at : ℕ) (c : Code) {e : Elimination} (known : e ≡ checked_code at c) where
  pub checked-fault : {checked : Result Unit Refusal} → e.answer ≡ checked
      → result_err checked ≡ (limits_fault c then code_fault at c)
  unfolding checked_code
  checked-fault told = fault-answered _ _ _ known told

  pub checked-rows : e.answer ≡ Ok tt
      → e.reduced ≡ reduced_of c.n (canonical_generators c.n (generators c))
  unfolding checked_code
  checked-rows told = rows-answered _ _ _ known told
