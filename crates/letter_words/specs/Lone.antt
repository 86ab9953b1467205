-- A letter by itself that has a given syndrome, which is looked for at all qubits at once.
use Rattle.std.specs.Prelude.{Option}
use Rattle.std.specs.Prelude.{cond, List, ◌≡◌, ℕ, ◌/◌, ◌%◌, ◌^◌, ◌<◌, eqb}
use Rattle.std.specs.Int.Bits.{bit_and, bit_xor}
use Rattle.letters.specs.declared.Letter.{Letter}
use Rattle.letters.specs.declared.Letter.TheVariants.{X, Y, Z}
use Rattle.letters.specs.Lists.{first_of}
use Rattle.pauli.specs.declared.Pauli.{Pauli}
use Rattle.pauli.specs.Letters.{of_letters}
use Rattle.pauli.specs.Order.{strings}
use Rattle.pauli.specs.Syndrome.{syndrome_mask}
use Rattle.code_record.specs.declared.Code.{Code}
use Rattle.code_record.specs.Record.{generators}
use Rattle.letter_sums.specs.Sums.{qubit_room}
use Rattle.letter_words.specs.declared.LetterSets.{LetterSets}
use Rattle.letter_words.specs.Words.{single_letter, word_qubits}

-- RULES, "Decoding": the earliest string of one letter, on the qubits that have words, with a given syndrome as a mask.
unfoldable pub lone_letter : Code → ℕ → Option (List Letter)
lone_letter c want =
    first_of (λ s. eqb (syndrome_mask (generators c) (of_letters s)) want) (strings (word_qubits c) 1)

-- Of the qubits in a set those whose bit in a mask is the wanted one, 0 or 1. A set is a mask with their bits. Where 0
-- is wanted, the mask is turned over.
abbrev pub having : ℕ → ℕ → ℕ → ℕ
having set mask bit = bit_and set (bit_xor mask (cond (eqb bit 0) 4294967295 0))

-- A set has exactly the qubits at which a letter has a given syndrome to some rows.
unfoldable pub HasAt : List Pauli → ℕ → Letter → ℕ → Type 0
HasAt rows want l set =
    (qubit : ℕ) → qubit < qubit_room
    → eqb (set / 2 ^ qubit % 2) 1 ≡ eqb (syndrome_mask rows (single_letter qubit l)) want

-- The sets of X, Y and Z.
pub record AreCandidates (rows : List Pauli) (want : ℕ) (c : LetterSets) : Type 0 where
  pub of_x : HasAt rows want X c.x
  pub of_y : HasAt rows want Y c.y
  pub of_z : HasAt rows want Z c.z
