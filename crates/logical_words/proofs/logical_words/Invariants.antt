-- The second words, qubit by qubit: those of the qubits passed are there, and the others are still 0. The first words
-- are those of the syndromes.
use Rattle.std.proofs.Common.{◌≡◌, ℕ, ◌*◌, ◌<◌, ◌≤◌, List, get_or}
use Rattle.pauli.specs.declared.Pauli.{Pauli}
use Rattle.letter_sums.specs.declared.LetterWords.{LetterWords}
use Rattle.letter_sums.specs.Sums.{qubit_room}
use Rattle.letter_words.proofs.Filling.{Filling}
use Rattle.logical_words.specs.Words.{rows_at, left_at_once}
use Rattle.logical_words.proofs.logical_words.Given as goal

-- Words whose second words are given.
abbrev pub with_second : LetterWords → List ℕ → LetterWords
with_second w second = record { qubits = w.qubits; first = w.first; second = second }

-- The table, for all rows that have these sums.
abbrev pub Filled : LetterWords → List ℕ → ℕ → LetterWords → Type 0
Filled w sums at words =
    (rows : List Pauli) → ((c : ℕ) → c < 65 → get_or sums c 0 ≡ rows_at rows c)
    → Filling (left_at_once rows) (with_second w) w.qubits at words

abbrev pub invariant-loop-right : goal.invariant-loop-right
invariant-loop-right l = (l.qubits ≤ qubit_room) × Filled l.initial.words l.sums (3 * l.right) l.words
