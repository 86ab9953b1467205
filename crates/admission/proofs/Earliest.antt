-- A search finds the first of the strings that are wanted, where its list has the candidates in their order and its
-- test is right. The test for a logical error is, so the search for one finds the earliest.
use mathlib.Core.Bool.{Bool, true, false, not, and-eq-true_iff, not-eq-not, false≢true}
use mathlib.Core.List.{List}
use mathlib.Core.Logic.{◌↔◌}
use mathlib.Core.Path.{◌≡◌, ap, sym, ◌∙◌}
use Prim.Native.Nat.{◌≤◌}
use borrow.Author.Tests.{not-true}
use lib.ListN.{length}
use Rattle.letters.specs.declared.Letter.{Letter}
use Rattle.pauli.specs.declared.Pauli.{Pauli}
use Rattle.pauli.specs.Letters.{of_letters}
use Rattle.letters.specs.Lists.{all_of, first_of}
use Rattle.pauli.specs.Order.{weight_of, strings_up_to}
use Rattle.pauli.specs.Product.{commutes}
use Rattle.pauli.specs.Statements.{StringOrder, Listed}
use Rattle.pauli.proofs.First.{first-is-earliest, first-is-missing}
use Rattle.pauli.proofs.EarlierOrder.{strings_up_to-listed}
use Rattle.code_record.specs.Record.{generators}
use Rattle.code_record.proofs.Limits.{both}
use Rattle.stabilizer.specs.Group.{InGroupUpToPhase, in_group_up_to_phase}
use Rattle.stabilizer.proofs.Members.{membership-is-decided}
use Rattle.admission.specs.Distance.{is_logical_error, logical_error_up_to}
use Rattle.admission.specs.Statements.{FindsFirst, LogicalString, LogicalErrorIsEarliest}
use Rattle.admission.proofs.Masks.{string-on-qubits}

-- ---- any search

module _
    {Before : StringOrder} {Condition Wanted : List Letter → Type 0} (test : List Letter → Bool)
    (list : List (List Letter)) (listed : Listed Before Condition list)
    (right : (s : List Letter) → Wanted s ↔ (Condition s × (test s ≡ true))) where
  pub search_finds-first : FindsFirst Before Wanted (first_of test list)
  search_finds-first = record {
    found = λ s e. let first = first-is-earliest test list listed s e in
        ((right s).1 (first.meets, first.passes), λ t w. let h = (right t).0 w in first.first t h.0 h.1);
    missing = λ e s w. let h = (right s).0 w in first-is-missing test list listed e s h.0 h.1;
  }

-- ---- the search for a logical error

logical-test-is-right : (rows : List Pauli) (P : Pauli)
    → (is_logical_error rows P ≡ true) ↔ ((all_of (commutes P) rows ≡ true) × (InGroupUpToPhase rows P → ⊥))
unfolding is_logical_error
logical-test-is-right rows P = (
  λ h. let b = both (all_of (commutes P) rows) _ h in
      (b.0, λ m. false≢true (sym (not-true (in_group_up_to_phase rows P) b.1) ∙ (membership-is-decided rows P).1 m)),
  λ h. (and-eq-true_iff (all_of (commutes P) rows) _).1
      (h.0, ap not ((not-eq-not {b = false}).0 λ m. h.1 ((membership-is-decided rows P).0 m))),
)

pub logical-error-is-earliest : LogicalErrorIsEarliest
unfolding logical_error_up_to
logical-error-is-earliest c v =
    search_finds-first (λ s. is_logical_error (generators c) (of_letters s)) (strings_up_to c.n v)
    (strings_up_to-listed c.n v) right
  where
    right : (s : List Letter) → LogicalString c v s
        ↔ (((length s ≡ c.n) × (weight_of s ≤ v)) × (is_logical_error (generators c) (of_letters s) ≡ true))
    right s =
        let test = logical-test-is-right (generators c) (of_letters s) in (
          λ h. ((h.letters, h.light), test.1 (h.logical.undetected, h.logical.outside)),
          λ ((letters, light), passes). let l = test.0 passes in record {
            letters = letters;
            light = light;
            logical = record { on_code = string-on-qubits c.n s letters; undetected = l.0; outside = l.1 };
          },
        )
