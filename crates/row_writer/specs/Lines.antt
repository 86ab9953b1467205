-- The lines of one row, with its sign and without, and the calls for one by itself.
use Rattle.refusals.specs.declared.Refusal.{Refusal}
use Rattle.std.specs.Prelude.{Result}
use Rattle.std.specs.Prelude.{List, [], ◌∷◌, ◌++◌, ℕ}
use Prim.Native.Char.{code}
use Rattle.pauli.specs.declared.Pauli.{Pauli}
use Rattle.pauli.specs.Letters.{letter_text, row_text}
use Rattle.code_record.specs.Record.{qubit_fault}
use Rattle.sheet.specs.Text.{line_feed, After, written}

-- The letters of a row and the line feed, with which both lines end.
unfoldable pub letters_end : ℕ → Pauli → List ℕ
letters_end n P = letter_text n P ++ line_feed ∷ []

-- RULES, "The sheet": the line of a row, by the byte before its `=`.
unfoldable pub row_line_text : ℕ → ℕ → Pauli → List ℕ
row_line_text key n P = key ∷ code "=" ∷ row_text n P ++ line_feed ∷ []

-- RULES, "The sheet": the line of a row without its sign, as w has it.
unfoldable pub letters_line_text : ℕ → ℕ → Pauli → List ℕ
letters_line_text key n P = key ∷ code "=" ∷ letters_end n P

-- RULES, "Calls and buffers": the line of a row by itself, with any key: 15 where n is not 2 to 24, then 17, then the
-- line and its length. Of any Pauli it shows what `rowText` does.
unfoldable pub write_row : ℕ → ℕ → Pauli → List ℕ → After (Result ℕ Refusal)
write_row key n P buffer = written (qubit_fault n) (row_line_text key n P) buffer

-- RULES, "Calls and buffers": the same of its letters alone.
unfoldable pub write_letters : ℕ → ℕ → Pauli → List ℕ → After (Result ℕ Refusal)
write_letters key n P buffer = written (qubit_fault n) (letters_line_text key n P) buffer
