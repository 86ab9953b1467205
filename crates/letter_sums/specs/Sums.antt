-- The search through strings of letters by words: each letter at each qubit has two, and a string the sums of its
-- letters' words, bit by bit.
use Rattle.std.specs.Prelude.{Option, Some, None}
use Rattle.std.specs.Prelude.{Bool, not, ◌&&◌, List, [], ◌∷◌, ℕ, zero, suc, ◌+◌, ◌*◌, ◌^◌, min, eqb, get_or}
use Rattle.std.specs.Int.Bits.{bit_xor}
use Rattle.letters.specs.declared.Letter.{Letter}
use Rattle.letters.specs.declared.Letter.TheVariants.{I, X, Y, Z}
use Rattle.letters.specs.Letters.{x_bit, z_bit}
use Rattle.letters.specs.Lists.{first_of}
use Rattle.pauli.specs.Letters.{x_mask, z_mask}
use Rattle.pauli.specs.Order.{strings, strings_up_to}
use Rattle.letter_sums.specs.declared.FoundMasks.{FoundMasks}
use Rattle.letter_sums.specs.declared.LetterWords.{LetterWords}

-- There are words for as many qubits as a mask has bits.
abbrev pub qubit_room : ℕ
qubit_room = 32

-- The word of a letter at the qubit with m qubits to its right: those of X, Y, Z stand side by side, and I has 0.
unfoldable pub word_at : List ℕ → ℕ → Letter → ℕ
word_at words m I = 0
word_at words m X = get_or words (3 * m) 0
word_at words m Y = get_or words (3 * m + 1) 0
word_at words m Z = get_or words (3 * m + 2) 0

-- The sum of the words of a string of n letters.
unfoldable pub sum_of : List ℕ → ℕ → List Letter → ℕ
sum_of words zero s = 0
sum_of words (suc n) [] = 0
sum_of words (suc n) (l ∷ s) = bit_xor (word_at words n l) (sum_of words n s)

unfoldable pub sums_to : List ℕ → ℕ → ℕ → List Letter → Bool
sums_to words n sum s = eqb (sum_of words n s) sum

-- The first words sum to what is wanted, and the second words do not sum to what is shunned.
unfoldable pub passes : List ℕ → List ℕ → ℕ → ℕ → ℕ → List Letter → Bool
passes first second n want shun s = sums_to first n want s && not (sums_to second n shun s)

-- The earliest such string of n letters and weight v, and of weight at most t.
unfoldable pub earliest_of : List ℕ → List ℕ → ℕ → ℕ → ℕ → ℕ → Option (List Letter)
earliest_of first second n v want shun = first_of (passes first second n want shun) (strings n v)

unfoldable pub earliest_up_to : List ℕ → List ℕ → ℕ → ℕ → ℕ → ℕ → Option (List Letter)
earliest_up_to first second n t want shun = first_of (passes first second n want shun) (strings_up_to n t)

-- The masks of a string that was found.
abbrev pub masks_at : ℕ → ℕ → Option FoundMasks
masks_at a b = Some (record { a = a; b = b })

-- A string that was found, as its masks.
unfoldable pub found_as : Option (List Letter) → Option FoundMasks
found_as None = None
found_as (Some s) = masks_at (x_mask s) (z_mask s)

-- The masks of `gap` letters I, a letter, and a string with the masks a and b behind it.
abbrev pub placed_at : ℕ → Letter → ℕ → ℕ → Option FoundMasks
placed_at gap l a b = masks_at ((x_bit l + 2 * a) * 2 ^ gap) ((z_bit l + 2 * b) * 2 ^ gap)

-- The call: the earliest string of weight at most t on the qubits that have words.
unfoldable pub earliest_by : LetterWords → ℕ → ℕ → ℕ → Option FoundMasks
earliest_by words t want shun =
    found_as (earliest_up_to words.first words.second (min words.qubits qubit_room) t want shun)
