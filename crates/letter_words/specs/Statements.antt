-- What is stated of the words of a code's letters.
use Rattle.std.specs.Prelude.{List, ◌≡◌, ℕ, length}
use Rattle.letters.specs.declared.Letter.{Letter}
use Rattle.pauli.specs.Letters.{of_letters}
use Rattle.pauli.specs.Syndrome.{syndrome_mask}
use Rattle.code_record.specs.declared.Code.{Code}
use Rattle.code_record.specs.Record.{generators}
use Rattle.letter_sums.specs.Sums.{sum_of, earliest_up_to, earliest_by, found_as}
use Rattle.letter_words.specs.Words.{word_qubits, syndrome_words, earliest_with}

-- A string's first words sum to its syndrome, and its second words to 0. So a search that shuns 1, and the search's
-- call, find the earliest string with the wanted syndrome.
pub record WordsSumToSyndromes (c : Code) : Type 0 where
  pub first : (s : List Letter) → length s ≡ word_qubits c
      → sum_of (syndrome_words c).first (word_qubits c) s ≡ syndrome_mask (generators c) (of_letters s)
  pub second : (s : List Letter) → length s ≡ word_qubits c → sum_of (syndrome_words c).second (word_qubits c) s ≡ 0
  pub found : (t want : ℕ)
      → earliest_up_to (syndrome_words c).first (syndrome_words c).second (word_qubits c) t want 1
      ≡ earliest_with c t want
  pub call : (t want : ℕ) → earliest_by (syndrome_words c) t want 1 ≡ found_as (earliest_with c t want)

abbrev pub SyndromesAreSummed : Type 0
SyndromesAreSummed = (c : Code) → WordsSumToSyndromes c
