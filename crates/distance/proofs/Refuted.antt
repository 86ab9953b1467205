-- What the search answers is what the definition's search finds, as masks; and the pair of masks that have 32 bits is
-- that of the string. So with canonical generators the check is 14.
use Rattle.std.specs.Prelude.{Option, Some, None}
use Rattle.std.specs.Option.{option_map}
use mathlib.Core.List.{List, [], ◌∷◌}
use mathlib.Core.Path.{◌≡◌, refl, ap, ap₂, ◌∙◌}
use Prim.Native.Nat.{ℕ, ◌-◌, ◌≤◌}
use native.Mathlib.Omega.{arith}
use lib.ListN.{length}
use Rattle.letters.specs.declared.Letter.{Letter}
use Rattle.letters.specs.Lists.{any_of}
use Rattle.pauli.specs.Letters.{of_letters, x_mask, z_mask}
use Rattle.pauli.specs.Order.{strings_up_to}
use Rattle.pauli.proofs.EarlierOrder.{strings_up_to-listed}
use Rattle.pauli.proofs.First.{first-is-earliest}
use Rattle.code_record.specs.declared.Code.{Code}
use Rattle.code_record.specs.Record.{generators}
use Rattle.code_record.proofs.Limits.{limits}
use Rattle.refusals.specs.declared.Refusal.{Refusal}
use Rattle.sheet.specs.Statements.{Among}
use Rattle.sheet.proofs.Numbers.{IfRefused, law-of-refusal}
use Rattle.reduced_rows.specs.declared.ReducedRows.{ReducedRows}
use Rattle.elimination.proofs.Passed.{fault-told, passed-within}
use Rattle.letter_sums.specs.declared.FoundMasks.{FoundMasks}
use Rattle.letter_sums.specs.declared.LetterWords.{LetterWords}
use Rattle.letter_sums.specs.Sums.{found_as, earliest_by}
use Rattle.admission.specs.Distance.{is_logical_error, logical_error_up_to, refuting_pair, distance_fault}
use Rattle.logical_words.specs.Words.{logical_words}
use Rattle.logical_words.proofs.LogicalErrors.{logical-errors-are-found}
use Rattle.refuting_pair.proofs.HalfMasks.{pair-of-string}
use Rattle.distance.specs.Search.{refuted_by, distance_by}
use Rattle.distance.specs.Statements.{DistanceIsChecked, DistanceRefusalNumbers}

-- The call's answer, by what its search was given and answered.
pub refuted-by : (at : ℕ) (c : Code) (rows : ReducedRows) (words : LetterWords) (v : ℕ) (found : Option FoundMasks)
    → words ≡ logical_words c rows → v ≡ c.d - 1 → found ≡ earliest_by words v 0 0
    → refuted_by at c.n found ≡ distance_by at c rows
unfolding distance_by
refuted-by at c rows words v found ew ev known =
    ap (refuted_by at c.n) (known ∙ ap₂ (λ ws u. earliest_by ws u 0 0) ew ev)

string-length : (c : Code) (v : ℕ) (s : List Letter) → logical_error_up_to c v ≡ Some s → length s ≡ c.n
unfolding logical_error_up_to
string-length c v s e =
    (first-is-earliest (λ t. is_logical_error (generators c) (of_letters t)) (strings_up_to c.n v)
    (strings_up_to-listed c.n v) s e).meets.0

refuted-as : (at n : ℕ) (o : Option (List Letter)) → ((s : List Letter) → o ≡ Some s → length s ≤ 32)
    → refuted_by at n (found_as o) ≡ option_map (λ s. Refusal.DistanceRefuted at (refuting_pair n s)) o
unfolding found_as
refuted-as at n None short = refl
refuted-as at n (Some s) short =
    ap (λ pair. Some (Refusal.DistanceRefuted at pair))
    (pair-of-string n (x_mask s) (z_mask s) s (short s refl) refl refl)

pub distance-is-checked : DistanceIsChecked
unfolding distance_by distance_fault
distance-is-checked at c passed =
    let room = limits c (passed-within c (fault-told c refl passed)) in
    ap (refuted_by at c.n) ((logical-errors-are-found c passed).call (c.d - 1))
    ∙ refuted-as at c.n (logical_error_up_to c (c.d - 1))
    (λ s e. omega (arith, string-length c (c.d - 1) s e, room.qubits))

found-lawful : (at n : ℕ) (found : Option FoundMasks) → IfRefused (Among (14 ∷ [])) (refuted_by at n found)
unfolding any_of
found-lawful at n None = IfRefused.unrefused
found-lawful at n (Some masks) = IfRefused.refused refl

pub distance-refusal-numbers : DistanceRefusalNumbers
unfolding distance_by
distance-refusal-numbers at c rows =
    law-of-refusal (found-lawful at c.n (earliest_by (logical_words c rows) (c.d - 1) 0 0))
