-- The words of a code's letters, by which the search goes through its errors: what a function of Paulis is of each of
-- X, Y, Z at each qubit.
use Rattle.std.specs.Prelude.{Option}
use Rattle.std.specs.Prelude.{cond, List, [], ◌∷◌, ℕ, zero, suc, ◌+◌, ◌-◌, ◌*◌, ◌/◌, ◌%◌, ◌^◌, min, eqb, ltb, replicate}
use Rattle.letters.specs.declared.Letter.{Letter}
use Rattle.letters.specs.declared.Sign.TheVariants.{Plus}
use Rattle.letters.specs.Letters.{x_bit, z_bit, struck_letter}
use Rattle.letters.specs.Lists.{first_of}
use Rattle.pauli.specs.declared.Pauli.{Pauli}
use Rattle.pauli.specs.Letters.{row_of, of_letters}
use Rattle.pauli.specs.Order.{strings_up_to}
use Rattle.pauli.specs.Product.{identity}
use Rattle.pauli.specs.Syndrome.{syndrome_mask}
use Rattle.code_record.specs.declared.Code.{Code}
use Rattle.code_record.specs.Record.{generators}
use Rattle.letter_sums.specs.declared.LetterWords.{LetterWords}
use Rattle.letter_sums.specs.Sums.{qubit_room}

-- RULES, "Letters and rows": the row with sign + that has the letter l on one qubit and I on the others. Places count
-- from 0, as bits do, and a mask has 32 of them.
unfoldable pub single_letter : ℕ → Letter → Pauli
single_letter place l = row_of Plus (x_bit l * 2 ^ place % 2 ^ 32) (z_bit l * 2 ^ place % 2 ^ 32)

-- The words of m places, of which the first is `at`.
unfoldable pub words_from : (ℕ → ℕ) → ℕ → ℕ → List ℕ
words_from word at zero = []
words_from word at (suc m) = word at ∷ words_from word (at + 1) m

-- A word for each letter at each qubit that has words.
abbrev pub word_room : ℕ
word_room = 3 * qubit_room

-- The words of the first `end` places, and 0 at the others.
unfoldable pub filled_words : (ℕ → ℕ) → ℕ → List ℕ
filled_words word end = words_from (λ at. cond (ltb at end) (word at) 0) 0 word_room

-- The letter whose word stands at a place: the letter numbered l at the qubit with m of n qubits to its right has the
-- place 3 * m + l.
unfoldable pub letter_for : ℕ → ℕ → Pauli
letter_for n at = single_letter (n - 1 - at / 3) (struck_letter (at % 3))

-- What a function is of the letters X, Y, Z at n qubits.
unfoldable pub words_of : (Pauli → ℕ) → ℕ → List ℕ
words_of word n = filled_words (λ at. word (letter_for n at)) (3 * n)

-- The qubits of a code that have words: all of them, in a code within limits.
unfoldable pub word_qubits : Code → ℕ
word_qubits c = min c.n qubit_room

-- RULES, "Decoding": the first words are the syndromes of the letters. The second words are 0.
unfoldable pub syndrome_words : Code → LetterWords
syndrome_words c = record {
  qubits = word_qubits c;
  first = words_of (syndrome_mask (generators c)) (word_qubits c);
  second = replicate word_room 0;
}

-- A record of n, r and the generators' rows: nothing else of a record is in its words.
abbrev pub with_generators : ℕ → ℕ → List Pauli → Code
with_generators n r g = record { n = n; r = r; d = 0; g = g; x = []; z = []; w = identity }

-- RULES, "Decoding": the earliest string of weight at most t, on the qubits that have words, with a given syndrome as a
-- mask. Within limits these are all n qubits.
unfoldable pub earliest_with : Code → ℕ → ℕ → Option (List Letter)
earliest_with c t want =
    first_of (λ s. eqb (syndrome_mask (generators c) (of_letters s)) want) (strings_up_to (word_qubits c) t)
