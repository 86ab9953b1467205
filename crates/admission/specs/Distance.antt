-- The checks of w, 11 to 13, and the distance, 14.
use Rattle.std.specs.Prelude.{Option}
use Rattle.std.specs.Option.{option_map}
use Rattle.std.specs.Prelude.{Bool, true, not, ◌&&◌, List, [], ◌∷◌, ◌≡◌, ℕ, zero, suc, ◌+◌, ◌-◌, ◌/◌, ◌≤◌, eqb}
use Rattle.pauli.specs.declared.Pauli.{Pauli}
use Rattle.letters.specs.Lists.{any_of, all_of, first_of}
use Rattle.pauli.specs.Product.{commutes, anticommutes, weight}
use Rattle.letters.specs.declared.Letter.{Letter}
use Rattle.letters.specs.declared.Letter.TheVariants.{I}
use Rattle.pauli.specs.Letters.{of_letters}
use Rattle.pauli.specs.Order.{letter_weight, weight_of, strings_up_to}
use Rattle.code_record.specs.declared.Code.{Code}
use Rattle.refusals.specs.declared.ErrorPair.{ErrorPair}
use Rattle.refusals.specs.declared.Refusal.{Refusal}
use Rattle.code_record.specs.Record.{generators, on_qubits}
use Rattle.refusals.specs.Refusals.{refuse_if}
use Rattle.stabilizer.specs.Group.{InGroupUpToPhase, in_group_up_to_phase}

-- Each of the four checks is given the line that w stands on, and names it.

-- RULES, "Admission": 11 where the weight of w is not d.
unfoldable pub claimed_weight_fault : ℕ → Code → Option Refusal
claimed_weight_fault at c = refuse_if (not (eqb (weight c.w) c.d)) (Refusal.ClaimedWeight at)

-- RULES, "Admission": 12 where w anticommutes with a generator.
unfoldable pub claimed_detected_fault : ℕ → Code → Option Refusal
claimed_detected_fault at c = refuse_if (any_of (anticommutes c.w) (generators c)) (Refusal.ClaimedAnticommutes at)

-- RULES, "Admission": 13 where w is in the group, phase aside.
unfoldable pub claimed_in_group_fault : ℕ → Code → Option Refusal
claimed_in_group_fault at c = refuse_if (in_group_up_to_phase (generators c) c.w) (Refusal.ClaimedInGroup at)

-- RULES, "Distance": a logical error commutes with every generator and is not in the group, phase aside.
unfoldable pub is_logical_error : List Pauli → Pauli → Bool
is_logical_error rows P = all_of (commutes P) rows && not (in_group_up_to_phase rows P)

-- The same as a proposition, about a Pauli on the code's qubits.
pub record LogicalError (c : Code) (P : Pauli) : Type 0 where
  pub on_code : on_qubits c.n P ≡ true
  pub undetected : all_of (commutes P) (generators c) ≡ true
  pub outside : InGroupUpToPhase (generators c) P → ⊥

-- RULES, "Distance": the distance is the least weight of a logical error.
pub record IsDistance (c : Code) (v : ℕ) : Type 0 where
  pub reached : (P : Pauli) × LogicalError c P × (weight P ≡ v)
  pub least : (P : Pauli) → LogicalError c P → v ≤ weight P

-- The earliest logical error of weight at most v, if there is one.
unfoldable pub logical_error_up_to : Code → ℕ → Option (List Letter)
logical_error_up_to c v = first_of (λ s. is_logical_error (generators c) (of_letters s)) (strings_up_to c.n v)

-- The first m letters other than I; the others become I.
unfoldable pub first_letters : ℕ → List Letter → List Letter
first_letters m [] = []
first_letters zero (l ∷ ls) = I ∷ first_letters zero ls
first_letters (suc m) (l ∷ ls) = l ∷ first_letters (suc m - letter_weight l) ls

-- All but the first m letters other than I; those become I.
unfoldable pub other_letters : ℕ → List Letter → List Letter
other_letters m [] = []
other_letters zero (l ∷ ls) = l ∷ ls
other_letters (suc m) (l ∷ ls) = I ∷ other_letters (suc m - letter_weight l) ls

-- RULES, "Distance": E has the first half of the earliest logical error's letters, rounded up, and F the others.
unfoldable pub refuting_pair : ℕ → List Letter → ErrorPair
refuting_pair n s =
    let half = (weight_of s + 1) / 2 in
    record { n = n; e = of_letters (first_letters half s); f = of_letters (other_letters half s) }

-- RULES, "Distance": 14 where there is a logical error of weight below d.
unfoldable pub distance_fault : ℕ → Code → Option Refusal
distance_fault at c =
    option_map (λ s. Refusal.DistanceRefuted at (refuting_pair c.n s)) (logical_error_up_to c (c.d - 1))
