-- What an elimination tells of its record; of one that passes, that its generators are independent, and which Paulis
-- are in the group, phase aside.
use Rattle.std.specs.Prelude.{None, Result, Ok}
use Rattle.std.specs.Result.{result_err}
use mathlib.Core.Bool.{true, not}
use mathlib.Core.Path.{◌≡◌, refl, ap, sym, ◌∙◌}
use lib.ListN.{take}
use borrow.Author.Tests.{not-false}
use Rattle.code_record.specs.declared.Code.{Code}
use Rattle.refusals.specs.declared.Refusal.{Refusal}
use Rattle.code_record.specs.Record.{is_row, on_qubits, generators, generators_at, within_limits, limits_fault}
use Rattle.code_record.proofs.Limits.{limits}
use Rattle.stabilizer.specs.Canonical.{reduces_to_identity, canonical_generators}
use Rattle.stabilizer.specs.Checks.{generator_fault, group_fault}
use Rattle.stabilizer.proofs.All.{all-of}
use Rattle.stabilizer.proofs.Faults.{nothing_then, unrefused, faultless-independent}
use Rattle.stabilizer.proofs.Independent.{Independent}
use Rattle.stabilizer.proofs.StabilizerRows.{qubits-rows}
use Rattle.stabilizer.proofs.Theorems.{reduction_decides-membership}
use Rattle.reduced_rows.specs.Rows.{rows_in, reduced_of}
use Rattle.reduced_rows.proofs.Rows.{rows_of}
use Rattle.elimination.specs.declared.Elimination.{Elimination}
use Rattle.elimination.specs.Answers.{elimination}
use Rattle.elimination.specs.Statements.{ContainsDecidesMembership}
use Rattle.elimination.proofs.Answered.{fault-answered, rows-answered}

module _ (c : Code) {e : Elimination} (known : e ≡ elimination c) where
  pub fault-told : {checked : Result Unit Refusal} → e.answer ≡ checked → result_err checked ≡ group_fault c
  unfolding elimination
  fault-told told = fault-answered _ _ _ known told

  pub rows_told : e.answer ≡ Ok tt → e.reduced ≡ reduced_of c.n (canonical_generators c.n (generators c))
  unfolding elimination
  rows_told told = rows-answered _ _ _ known told

-- A record that passes is within limits, and its generators are independent.
module _ (c : Code) (passes : None ≡ group_fault c) where
  parts : (limits_fault c ≡ None) × (generator_fault (generators_at c) (generators c) ≡ None)
  unfolding group_fault
  parts = nothing_then (limits_fault c) (generator_fault (generators_at c) (generators c)) (sym passes)

  pub passed-within : within_limits c ≡ true
  unfolding limits_fault
  passed-within = not-false (within_limits c) (unrefused (not (within_limits c)) Refusal.RecordLimits parts.0)

  pub passed-independent : Independent c.n (generators c)
  unfolding generators
  passed-independent =
      faultless-independent c.n (generators_at c) (generators c)
      ((all-of (is_row c.n) (take c.r c.g)).0 (limits c passed-within).generator_rows.used) parts.1

pub contains-decides-membership : ContainsDecidesMembership
unfolding reduced_of
contains-decides-membership c told P =
    let rows = generators c in
    let known : elimination c ≡ elimination c = refl in
    let i = passed-independent c (fault-told c known told) in
    ap (λ hs. reduces_to_identity hs.n (rows_in hs) P) (rows_told c known told)
    ∙ ap (λ hs. reduces_to_identity c.n hs P) (rows_of c.n (canonical_generators c.n rows))
    ∙ reduction_decides-membership.canonical c.n rows
    ((all-of (on_qubits c.n) rows).1 (qubits-rows c.n rows i.stabilizer.are_rows)) P
