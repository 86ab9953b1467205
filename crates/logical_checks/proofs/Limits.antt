-- 15 comes before the other checks: they are made where a sheet has so many qubits.
use Rattle.std.specs.Prelude.{None}
use Rattle.letters.proofs.Options.{some-none}
use mathlib.Core.Bool.{Bool, true, false, not}
use mathlib.Core.Path.{◌≡◌, refl, ap, sym}
use Prim.Native.Nat.{ℕ, ◌≤◌}
use borrow.Author.Tests.{not-false}
use Rattle.refusals.specs.declared.Refusal.{Refusal}
use Rattle.refusals.specs.Refusals.{refuse_if}
use Rattle.code_record.specs.Record.{most_qubits, between, within_limits, limits_fault, qubit_fault}
use Rattle.code_record.proofs.Limits.{between-bounds, bounds-between, limits}
use Rattle.stabilizer.proofs.Faults.{unrefused}
use Rattle.logical_checks.specs.Statements.{WithinLimitsPasses}

pub passed-few : (n : ℕ) → None ≡ qubit_fault n → n ≤ most_qubits
unfolding qubit_fault
passed-few n passes =
    let few = between 2 most_qubits n in
    (between-bounds 2 most_qubits n (not-false few (unrefused (not few) Refusal.RecordLimits (sym passes)))).1

pub within-limits-passes : WithinLimitsPasses
unfolding limits_fault qubit_fault refuse_if
within-limits-passes c passed = go (within_limits c) refl passed
  where
    go : (t : Bool) → within_limits c ≡ t → refuse_if (not t) Refusal.RecordLimits ≡ None → qubit_fault c.n ≡ None
    go true e passed =
        let qubits = (limits c e).qubits in
        ap (λ t. refuse_if (not t) Refusal.RecordLimits) (bounds-between 2 most_qubits c.n qubits.0 qubits.1)
    go false e passed = absurd (some-none _ passed)
