-- The first words, qubit by qubit: those of the qubits passed are there, and the others are still 0. The bits of a
-- qubit's words, generator by generator: the inner loop starts behind the last, where there are none.
use Rattle.std.proofs.Common.{ℕ, ◌*◌, List, replicate}
use Rattle.pauli.specs.declared.Pauli.{Pauli}
use Rattle.pauli.specs.Syndrome.{syndrome_mask}
use Rattle.code_record.specs.Record.{generators}
use Rattle.letter_sums.specs.declared.LetterWords.{LetterWords}
use Rattle.letter_words.specs.Words.{word_room, with_generators}
use Rattle.letter_words.proofs.Filling.{Filling}
use Rattle.letter_words.proofs.GeneratorWords.{WordsFrom}
use Rattle.letter_words.proofs.words_of.Given as goal

-- The word of a Pauli by r rows of an array.
abbrev pub word : ℕ → ℕ → List Pauli → Pauli → ℕ
word n r g = syndrome_mask (generators (with_generators n r g))

-- Words whose first words are given.
abbrev pub with_first : ℕ → List ℕ → LetterWords
with_first n first = record { qubits = n; first = first; second = replicate word_room 0 }

abbrev pub invariant-loop-right : goal.invariant-loop-right
invariant-loop-right l = Filling (word l.n l.r l.g) (with_first l.qubits) l.qubits (3 * l.right) l.words

abbrev pub invariant-loop-place : goal.invariant-loop-place
invariant-loop-place l = WordsFrom (with_generators l.n l.r l.g) l.qubit l.place l.both
