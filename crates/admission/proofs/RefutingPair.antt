-- The two errors of refusal 14 are halves of the earliest logical error of all: the search found it among those
-- below d, any other is heavier and so later, and its letters are dealt out to the two.
use Rattle.std.specs.Prelude.{Option, Some, None}
use Rattle.std.specs.Result.{result_err}
use Rattle.std.specs.Option.{option_map}
use Rattle.std.proofs.lemmas.Option.{none-some, same_Some}
use mathlib.Core.List.{List, [], ◌∷◌}
use mathlib.Core.Logic.{◌⊎◌, inl, inr}
use mathlib.Core.Path.{◌≡◌, refl, ap, sym, ◌∙◌}
use Prim.Native.Nat.{ℕ, zero, suc, ◌+◌, ◌-◌, ◌/◌, ◌≤◌}
use native.Mathlib.Decide.{dec_lt}
use native.Mathlib.Omega.{arith}
use lib.Dec.{lit≤}
use lib.ListN.{length}
use Rattle.letters.specs.declared.Letter.{Letter}
use Rattle.letters.specs.declared.Letter.TheVariants.{I, X, Y, Z}
use Rattle.pauli.specs.Letters.{of_letters}
use Rattle.pauli.specs.Order.{letter_weight, weight_of, Earlier}
use Rattle.pauli.proofs.Letters.{weight-counts-letters}
use Rattle.code_record.specs.declared.Code.{Code}
use Rattle.refusals.specs.declared.Refusal.{Refusal}
use Rattle.sheet.specs.Reader.{SheetRead}
use Rattle.admission.specs.Admission.{AdmissibleButForDistance}
use Rattle.admission.specs.Admission.{admitted, refused_reading, reading_of, read_sheet}
use Rattle.admission.specs.Distance.{first_letters, other_letters, refuting_pair, logical_error_up_to, distance_fault}
use Rattle.admission.specs.Statements.{EarliestLogical, PlusRow, Halves, ShowsEarliest}
use Rattle.admission.specs.Statements.{RefutingPairIsFromEarliest}
use Rattle.admission.proofs.Admitted.{read-by-distance}
use Rattle.admission.proofs.Earliest.{logical-error-is-earliest}
use Rattle.admission.proofs.Halves.{dealt-halves, dealt-lengths, dealt-weights}
use Rattle.admission.proofs.Masks.{string-on-qubits, string-returns}

-- ---- the weight of the first letters

letter-weighs-at-most_1 : (l : Letter) → letter_weight l ≤ 1
unfolding letter_weight
letter-weighs-at-most_1 I = lit≤ tt
letter-weighs-at-most_1 X = lit≤ tt
letter-weighs-at-most_1 Y = lit≤ tt
letter-weighs-at-most_1 Z = lit≤ tt

no-letters-weigh_0 : (s : List Letter) → weight_of (first_letters zero s) ≡ 0
unfolding first_letters weight_of letter_weight
no-letters-weigh_0 [] = refl
no-letters-weigh_0 (l ∷ s) = omega (arith, no-letters-weigh_0 s)

first-letters-weigh : (m : ℕ) (s : List Letter) → m ≤ weight_of s → weight_of (first_letters m s) ≡ m
unfolding first_letters weight_of
first-letters-weigh m [] few = omega arith
first-letters-weigh zero (l ∷ s) few = no-letters-weigh_0 (l ∷ s)
first-letters-weigh (suc m) (l ∷ s) few =
    let one = letter-weighs-at-most_1 l in omega (arith, first-letters-weigh (suc m - letter_weight l) s (omega arith))

-- ---- the pair

plus-row : (n : ℕ) (s : List Letter) → length s ≡ n → PlusRow n (of_letters s)
plus-row n s count = record { on_code = string-on-qubits n s count; plus = string-returns n s count }

pair-halves : (n : ℕ) (s : List Letter) → length s ≡ n
    → Halves n s (refuting_pair n s).e (refuting_pair n s).f
unfolding refuting_pair
pair-halves n s count =
    let half = (weight_of s + 1) / 2 in
    let dealt = dealt-halves half s in
    let counts = dealt-lengths dealt in
    let first = first_letters half s in
    let other = other_letters half s in
    record {
      row_e = plus-row n first (counts.0 ∙ count);
      row_f = plus-row n other (counts.1 ∙ count);
      weights = omega (arith, weight-counts-letters first, weight-counts-letters other, dealt-weights dealt);
      half = weight-counts-letters first ∙ first-letters-weigh half s (omega arith);
    }

-- What is earliest among the strings of weight at most v is earliest of all.
earliest-of-all : (v : ℕ) (s t : List Letter) → weight_of s ≤ v → (weight_of t ≤ v → (t ≡ s) ⊎ Earlier s t)
    → (t ≡ s) ⊎ Earlier s t
unfolding Earlier
earliest-of-all v s t light among = elim (dec_lt v (weight_of t)) [
  | yes h ↦ inr (inl (omega arith))
  | no h ↦ among (omega arith)
]

found-is-earliest : (c : Code) (v : ℕ) (s : List Letter) → logical_error_up_to c v ≡ Some s → EarliestLogical c s
found-is-earliest c v s e =
    let h = (logical-error-is-earliest c v).found s e in
    record {
      letters = h.0.letters;
      logical = h.0.logical;
      earliest = λ t count logical. earliest-of-all v s t h.0.light
          (λ light. h.1 t (record { letters = count; light = light; logical = logical }));
    }

of-record : (at : ℕ) (c : Code) (refusal : Refusal) → distance_fault at c ≡ Some refusal → ShowsEarliest at c refusal
unfolding distance_fault
of-record at c refusal = go (logical_error_up_to c (c.d - 1)) refl
  where
    told : List Letter → Refusal
    told s = Refusal.DistanceRefuted at (refuting_pair c.n s)

    go : (o : Option (List Letter)) → logical_error_up_to c (c.d - 1) ≡ o → option_map told o ≡ Some refusal
        → ShowsEarliest at c refusal
    go None e h = absurd (none-some refusal h)
    go (Some s) e h =
        let earliest = found-is-earliest c (c.d - 1) s e in
        record {
          pair = refuting_pair c.n s;
          told = sym (same_Some (told s) refusal h);
          from = record {
            logical = s;
            is_earliest = earliest;
            parts = refl;
            halves = pair-halves c.n s earliest.letters;
          };
        }

-- ---- the sheet

-- The one refusal of a sheet that is admissible but for distance is that of its distance.
pub refusal-is-distance-fault : (s : List ℕ) (q : SheetRead) → AdmissibleButForDistance s q → (refusal : Refusal)
    → result_err (read_sheet s).answer ≡ Some refusal → distance_fault q.claim_at q.code ≡ Some refusal
unfolding reading_of admitted refused_reading
refusal-is-distance-fault s q lawful refusal e =
    sym (fault-of (distance_fault q.claim_at q.code))
    ∙ ap (λ r. result_err r.answer) (sym (read-by-distance s q lawful)) ∙ e
  where
    fault-of : (o : Option Refusal) → result_err (reading_of q.code o).answer ≡ o
    fault-of None = refl
    fault-of (Some refusal) = refl

pub refuting-pair-is-from-earliest : RefutingPairIsFromEarliest
refuting-pair-is-from-earliest = record {
  of_record = of-record;
  of_sheet = λ s q refusal lawful e. of-record _ q.code refusal (refusal-is-distance-fault s q lawful refusal e);
}
