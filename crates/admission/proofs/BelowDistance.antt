-- With no distance fault, what is lighter than d and commutes with every generator is in the group, phase aside: else
-- the string of its letters would be a logical error, and the search would have found one.
use Rattle.letters.proofs.Options.{map-none}
use Rattle.std.specs.Prelude.{None}
use mathlib.Core.Bool.{true, false≢true}
use mathlib.Core.Path.{◌≡◌, sym, ◌∙◌}
use Prim.Native.Nat.{ℕ, ◌-◌, ◌≤◌, ◌<◌}
use native.Mathlib.Decide.{dec_lt}
use native.Mathlib.Omega.{arith}
use Rattle.pauli.specs.declared.Pauli.{Pauli}
use Rattle.pauli.specs.Letters.{letters_of}
use Rattle.letters.specs.Lists.{all_of}
use Rattle.pauli.specs.Product.{commutes, weight}
use Rattle.pauli.proofs.Letters.{length-letters_of, weight-of-letters}
use Rattle.code_record.specs.declared.Code.{Code}
use Rattle.code_record.specs.Record.{generators, on_qubits}
use Rattle.code_record.proofs.Limits.{on-qubits}
use Rattle.stabilizer.specs.Group.{InGroupUpToPhase, in_group_up_to_phase}
use Rattle.stabilizer.proofs.Members.{membership-is-decided}
use Rattle.stabilizer.proofs.Tests.{by-test}
use Rattle.admission.specs.Distance.{LogicalError, logical_error_up_to, distance_fault}
use Rattle.admission.specs.Statements.{LogicalString}
use Rattle.admission.proofs.Earliest.{logical-error-is-earliest}
use Rattle.admission.proofs.Masks.{commutes-by-masks, in-group-by-masks, string-on-qubits, letters-keep-masks}

-- The letters of a logical error are among the strings that are searched up to its weight.
letters-are-searched : (c : Code) (P : Pauli) → LogicalError c P → (v : ℕ) → weight P ≤ v
    → LogicalString c v (letters_of c.n P)
letters-are-searched c P h v light =
    let q = on-qubits c.n P h.on_code in
    let same = letters-keep-masks c.n P h.on_code in
    let rows = generators c in
    let count = length-letters_of c.n P in
    record {
      letters = count;
      light = omega (arith, weight-of-letters c.n P q.0 q.1);
      logical = record {
        on_code = string-on-qubits c.n (letters_of c.n P) count;
        undetected = commutes-by-masks rows _ P same ∙ h.undetected;
        outside = λ m. h.outside (in-group-by-masks rows _ P same m);
      };
    }

module _ (at : ℕ) (c : Code) (faultless : distance_fault at c ≡ None) where
  nothing-found : logical_error_up_to c (c.d - 1) ≡ None
  unfolding distance_fault
  nothing-found = map-none _ (logical_error_up_to c (c.d - 1)) faultless

  pub logical-errors-weigh-d : (P : Pauli) → LogicalError c P → c.d ≤ weight P
  logical-errors-weigh-d P h = elim (dec_lt (weight P) c.d) [
    | yes l ↦
        absurd ((logical-error-is-earliest c (c.d - 1)).missing nothing-found _
        (letters-are-searched c P h (c.d - 1) (omega arith)))
    | no l ↦ omega arith
  ]

  pub light-in-group : (P : Pauli) → on_qubits c.n P ≡ true → all_of (commutes P) (generators c) ≡ true
      → weight P < c.d → InGroupUpToPhase (generators c) P
  light-in-group P on undetected light =
      by-test (λ _. InGroupUpToPhase (generators c) P) (in_group_up_to_phase (generators c) P)
      (λ e. (membership-is-decided (generators c) P).0 e)
      (λ e. absurd (omega (
        arith,
        logical-errors-weigh-d P (record {
          on_code = on;
          undetected = undetected;
          outside = λ m. false≢true (sym e ∙ (membership-is-decided (generators c) P).1 m);
        }),
      )))
