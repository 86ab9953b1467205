-- The words of a code's letters, by which the search goes through its logical errors.
use Rattle.std.specs.Prelude.{Bool, cond, ℕ, eqb}
use mathlib.Core.List.{List, foldl}
use Rattle.std.specs.Int.Bits.{bit_xor}
use Rattle.pauli.specs.declared.Pauli.{Pauli}
use Rattle.code_record.specs.declared.Code.{Code}
use Rattle.stabilizer.specs.Canonical.{column, pivot, side_by_side}
use Rattle.reduced_rows.specs.declared.ReducedRows.{ReducedRows}
use Rattle.reduced_rows.specs.Rows.{rows_in}
use Rattle.letter_sums.specs.declared.LetterWords.{LetterWords}
use Rattle.letter_words.specs.Words.{words_of, word_qubits, syndrome_words}

-- A Pauli as one word, phase aside.
unfoldable pub mask_word : Pauli → ℕ
mask_word P = side_by_side P.a P.b

-- A word to which the rows that pass a test are added, bit by bit.
unfoldable pub with_rows : (Pauli → Bool) → List Pauli → ℕ → ℕ
with_rows test rows word = foldl (λ sum h. bit_xor sum (cond (test h) (mask_word h) 0)) word rows

-- Whether a row has its first one in a column. A mask has 32 bits in a program, and so each part of a row has 32
-- columns.
abbrev pub begins_at : ℕ → Pauli → Bool
begins_at at h = eqb (pivot 32 h) at

-- The sum of the rows that begin in a column.
unfoldable pub rows_at : List Pauli → ℕ → ℕ
rows_at rows at = with_rows (begins_at at) rows 0

-- What rows in reduced echelon form leave of a Pauli, all at once. No row has a one in the column of another's first
-- one, so the Pauli itself tells which rows are taken away.
unfoldable pub left_at_once : List Pauli → Pauli → ℕ
left_at_once rows P = with_rows (λ h. eqb (column 32 P (pivot 32 h)) 1) rows (mask_word P)

-- RULES, "Distance": a logical error has a syndrome of zeros and is not in the group, phase aside. So the first words
-- are the syndromes of the letters, and the second what the rows, the canonical generators, leave of them.
unfoldable pub logical_words : Code → ReducedRows → LetterWords
logical_words c rows = record {
  qubits = word_qubits c;
  first = (syndrome_words c).first;
  second = words_of (left_at_once (rows_in rows)) (word_qubits c);
}
