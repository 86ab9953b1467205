-- The search by these words finds the earliest logical error: the first words of a string sum to its syndrome, and the
-- second words to what the canonical generators leave of it, which is 0 for members of the group alone.
use Rattle.std.specs.Prelude.{Ok}
use mathlib.Core.Bool.{not, ◌&&◌}
use mathlib.Core.List.{List}
use mathlib.Core.Path.{◌≡◌, refl, ap, ap₂, ◌∙◌}
use Prim.Native.Nat.{ℕ, ◌^◌, ◌≤◌, ◌<◌}
use native.Mathlib.Nat.{lt_of_lt_of_le, pow-le-pow_right}
use native.Mathlib.Omega.{arith}
use lib.Dec.{eqb}
use lib.ListN.{length}
use Rattle.letters.specs.declared.Letter.{Letter}
use Rattle.pauli.specs.declared.Pauli.{Pauli}
use Rattle.pauli.specs.Letters.{row_of, signed_row, of_letters}
use Rattle.pauli.specs.Order.{strings_up_to}
use Rattle.pauli.proofs.EarlierOrder.{strings_up_to-listed}
use Rattle.pauli.proofs.First.{same-search}
use Rattle.pauli.proofs.Letters.{x_mask-lt}
use Rattle.pauli.proofs.Undetected.{mask-undetected}
use Rattle.code_record.specs.declared.Code.{Code}
use Rattle.code_record.specs.Record.{generators, on_qubits}
use Rattle.code_record.proofs.Limits.{limits}
use Rattle.stabilizer.specs.Canonical.{remainder_word, canonical_generators}
use Rattle.stabilizer.specs.Group.{in_group_up_to_phase}
use Rattle.stabilizer.proofs.All.{all-of}
use Rattle.stabilizer.proofs.Echelon.{OnQubits, echelon-is-reduced}
use Rattle.stabilizer.proofs.Reduction.{canonical-on-qubits, canonical-echelon}
use Rattle.stabilizer.proofs.Remainder.{remainder_tells-members}
use Rattle.stabilizer.proofs.StabilizerRows.{qubits-rows}
use Rattle.reduced_rows.specs.Rows.{rows_in}
use Rattle.reduced_rows.proofs.Rows.{rows_of}
use Rattle.elimination.specs.Answers.{elimination}
use Rattle.elimination.proofs.Passed.{fault-told, rows_told, passed-within, passed-independent}
use Rattle.letter_sums.specs.declared.LetterWords.{LetterWords}
use Rattle.letter_sums.specs.Sums.{qubit_room, sum_of, sums_to, passes, earliest_up_to, earliest_by, found_as}
use Rattle.letter_words.specs.Words.{words_of}
use Rattle.letter_words.proofs.Sums.{words-sum, all-qubits, searched-qubits, syndromes-sum-on}
use Rattle.admission.specs.Distance.{is_logical_error, logical_error_up_to}
use Rattle.logical_words.specs.Statements.{LogicalWordsAreSummed, LogicalErrorsAreFound}
use Rattle.logical_words.specs.Words.{left_at_once, logical_words}
use Rattle.logical_words.proofs.AtOnce.{left-additive, left-at-once-is-remainder}

-- ---- the sums of words

pub logical-words-are-summed : LogicalWordsAreSummed
unfolding logical_words
logical-words-are-summed c rows few s count =
    let word = left_at_once (rows_in rows) in
    record {
      first = syndromes-sum-on c few s count;
      second = ap (λ (n : ℕ). sum_of (words_of word n) c.n s) (all-qubits c few)
          ∙ words-sum word (left-additive (rows_in rows)) c.n few s count;
    }

-- ---- a code whose generators pass

module _ (c : Code) (passed : (elimination c).answer ≡ (Ok tt)) where
  few : c.n ≤ qubit_room
  few = omega (arith, (limits c (passed-within c (fault-told c refl passed))).qubits.1)

  on : OnQubits c.n (generators c)
  on = qubits-rows c.n (generators c) (passed-independent c (fault-told c refl passed)).stabilizer.are_rows

  abbrev canonical : List Pauli
  canonical = canonical_generators c.n (generators c)

  abbrev words : LetterWords
  words = logical_words c (elimination c).reduced

  left : (s : List Letter) → length s ≡ c.n
      → sum_of words.second c.n s ≡ remainder_word c.n canonical (of_letters s)
  left s count =
      (logical-words-are-summed c (elimination c).reduced few s count).second
      ∙ ap (λ hs. left_at_once (rows_in hs) (of_letters s)) (rows_told c refl passed)
      ∙ ap (λ hs. left_at_once hs (of_letters s)) (rows_of c.n canonical)
      ∙ left-at-once-is-remainder c.n canonical few
      ((all-of (on_qubits c.n) canonical).1 (canonical-on-qubits c.n (generators c) on))
      (echelon-is-reduced c.n canonical (canonical-echelon c.n (generators c) on)) (of_letters s)

  -- What is left is 0 for members alone.
  member-told : (s : List Letter) → length s ≡ c.n
      → eqb (sum_of words.second c.n s) 0 ≡ in_group_up_to_phase (generators c) (of_letters s)
  unfolding of_letters signed_row row_of
  member-told s count =
      let short : length s ≤ 32 = omega (arith, few, count) in
      let fits : (of_letters s).a < 2 ^ 32 = lt_of_lt_of_le (x_mask-lt s) (pow-le-pow_right {n = 2} (omega arith) short)
      in
      ap (λ (word : ℕ). eqb word 0) (left s count)
      ∙ remainder_tells-members.canonical c.n (generators c) few ((all-of (on_qubits c.n) (generators c)).1 on)
      (of_letters s) fits

  passes-logical : (s : List Letter) → length s ≡ c.n
      → passes words.first words.second c.n 0 0 s ≡ is_logical_error (generators c) (of_letters s)
  unfolding passes sums_to is_logical_error
  passes-logical s count =
      ap (λ (first : ℕ). eqb first 0 && not (eqb (sum_of words.second c.n s) 0))
      (logical-words-are-summed c (elimination c).reduced few s count).first
      ∙ ap₂ (λ t u. t && not u) (mask-undetected (generators c) (of_letters s)) (member-told s count)

  found : (v : ℕ) → earliest_up_to words.first words.second c.n v 0 0 ≡ logical_error_up_to c v
  unfolding earliest_up_to logical_error_up_to
  found v =
      same-search _ _ (strings_up_to c.n v) (strings_up_to-listed c.n v) (λ s meets. passes-logical s meets.0)

  call : (v : ℕ) → earliest_by words v 0 0 ≡ found_as (logical_error_up_to c v)
  unfolding earliest_by logical_words
  call v =
      ap (λ (n : ℕ). found_as (earliest_up_to words.first words.second n v 0 0)) (searched-qubits c few)
      ∙ ap found_as (found v)

pub logical-errors-are-found : LogicalErrorsAreFound
logical-errors-are-found c passed = record {
  left = left c passed;
  found = found c passed;
  call = call c passed;
}
