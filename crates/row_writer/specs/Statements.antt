-- What is stated of a row's line that is written by itself, with its sign and without.
use Rattle.std.specs.Prelude.{Some}
use Rattle.std.specs.Result.{result_err}
use Rattle.std.specs.Prelude.{List, [], ◌∷◌, ◌≡◌, ℕ}
use Prim.Native.Char.{code}
use Prim.Native.String.{String}
use Rattle.pauli.specs.declared.Pauli.{Pauli}
use Rattle.pauli.specs.Letters.{letter_text, row_text}
use Rattle.letters.specs.Lists.{bytes}
use Rattle.refusals.specs.declared.Refusal.{Refusal}
use Rattle.sheet.specs.Statements.{RefusalLeaves, Among}
use Rattle.sheet.specs.Text.{line}
use Rattle.row_writer.specs.Lines.{row_line_text, write_row, letters_line_text, write_letters}

-- They are the lines that the definitions of a sheet and of a report have.
pub record LinesAreOfTheirKey : Type 0 where
  pub row : (key : String) (byte n : ℕ) (P : Pauli) → bytes key ≡ byte ∷ code "=" ∷ []
      → row_line_text byte n P ≡ line key (row_text n P)
  pub letters : (key : String) (byte n : ℕ) (P : Pauli) → bytes key ≡ byte ∷ code "=" ∷ []
      → letters_line_text byte n P ≡ line key (letter_text n P)

-- RULES, "Calls and buffers": a refusal leaves the buffer as it was.
pub record LineRefusalsLeave : Type 0 where
  pub row : (key n : ℕ) (P : Pauli) (buffer : List ℕ) → RefusalLeaves result_err buffer (write_row key n P buffer)
  pub letters : (key n : ℕ) (P : Pauli) (buffer : List ℕ)
      → RefusalLeaves result_err buffer (write_letters key n P buffer)

-- RULES, "Calls and buffers": the numbers with which the two calls refuse.
pub record LineRefusalNumbers : Type 0 where
  pub row : (key n : ℕ) (P : Pauli) (buffer : List ℕ) (refusal : Refusal)
      → result_err (write_row key n P buffer).answer ≡ Some refusal → Among (15 ∷ 17 ∷ []) refusal
  pub letters : (key n : ℕ) (P : Pauli) (buffer : List ℕ) (refusal : Refusal)
      → result_err (write_letters key n P buffer).answer ≡ Some refusal → Among (15 ∷ 17 ∷ []) refusal
