-- What is stated of the words of logical errors.
use Rattle.std.specs.Prelude.{Ok}
use Rattle.std.specs.Prelude.{true, List, ◌≡◌, ℕ, ◌≤◌, length}
use Rattle.letters.specs.declared.Letter.{Letter}
use Rattle.letters.specs.Lists.{all_of}
use Rattle.pauli.specs.declared.Pauli.{Pauli}
use Rattle.pauli.specs.Letters.{of_letters}
use Rattle.pauli.specs.Syndrome.{syndrome_mask}
use Rattle.code_record.specs.declared.Code.{Code}
use Rattle.code_record.specs.Record.{generators, on_qubits}
use Rattle.stabilizer.specs.Canonical.{ReducedEchelon, remainder_word, canonical_generators}
use Rattle.reduced_rows.specs.declared.ReducedRows.{ReducedRows}
use Rattle.reduced_rows.specs.Rows.{rows_in}
use Rattle.letter_sums.specs.Sums.{qubit_room, sum_of, earliest_by, earliest_up_to, found_as}
use Rattle.elimination.specs.Answers.{elimination}
use Rattle.admission.specs.Distance.{logical_error_up_to}
use Rattle.logical_words.specs.Words.{left_at_once, logical_words}

-- A string's first words sum to its syndrome, and its second words to what the rows, taken away at once, leave of it.
pub record WordsSum (c : Code) (rows : ReducedRows) (s : List Letter) : Type 0 where
  pub first : sum_of (logical_words c rows).first c.n s ≡ syndrome_mask (generators c) (of_letters s)
  pub second : sum_of (logical_words c rows).second c.n s ≡ left_at_once (rows_in rows) (of_letters s)

abbrev pub LogicalWordsAreSummed : Type 0
LogicalWordsAreSummed =
    (c : Code) (rows : ReducedRows) → c.n ≤ qubit_room → (s : List Letter) → length s ≡ c.n → WordsSum c rows s

-- Rows in reduced echelon form leave the same of a Pauli at once as one by one.
abbrev pub LeftAtOnceIsRemainder : Type 0
LeftAtOnceIsRemainder =
    (n : ℕ) (rows : List Pauli) → n ≤ 32 → all_of (on_qubits n) rows ≡ true → ReducedEchelon n rows → (P : Pauli)
    → left_at_once rows P ≡ remainder_word n rows P

-- RULES, "Distance": a logical error commutes with every generator and is not in the group, phase aside. Of a code
-- whose generators pass 6 to 8 a string's second words sum to what the canonical generators leave of it. The search by
-- these words, for first words that sum to 0 and second words that do not, finds the earliest logical error; and so
-- does the search's call.
pub record WordsFindLogicalErrors (c : Code) : Type 0 where
  pub left : (s : List Letter) → length s ≡ c.n
      → sum_of (logical_words c (elimination c).reduced).second c.n s
      ≡ remainder_word c.n (canonical_generators c.n (generators c)) (of_letters s)
  pub found : (v : ℕ) → let words = logical_words c (elimination c).reduced in
      earliest_up_to words.first words.second c.n v 0 0 ≡ logical_error_up_to c v
  pub call : (v : ℕ) → earliest_by (logical_words c (elimination c).reduced) v 0 0 ≡ found_as (logical_error_up_to c v)

abbrev pub LogicalErrorsAreFound : Type 0
LogicalErrorsAreFound = (c : Code) → (elimination c).answer ≡ (Ok tt) → WordsFindLogicalErrors c
