-- What the words of a line are read as.
use Rattle.std.specs.Prelude.{Option, Some, None}
use Rattle.std.specs.Prelude.{cond, List, ℕ, ltb, length}
use Rattle.letters.specs.declared.Letter.{Letter}
use Rattle.pauli.specs.declared.Pauli.{Pauli}

-- The bit that a letter has in a mask; 0 of a byte that was not read as one.
abbrev pub bit_of : (Letter → ℕ) → Option Letter → ℕ
bit_of bit (Some l) = bit l
bit_of bit None = 0

-- RULES, "The sheet": a number has one or two digits.
abbrev pub most_digits : ℕ
most_digits = 2

-- A word with more bytes than a sheet's word may have is not read.
unfoldable pub up_to : {A : Type 0} → ℕ → (List ℕ → Option A) → List ℕ → Option A
up_to most read word = cond (ltb most (length word)) None (read word)
