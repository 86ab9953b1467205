-- What the readers of rows answer, in the terms of the sheet's definitions.
use Rattle.std.specs.Prelude.{Result, Ok, Err}
use Rattle.std.specs.Prelude.{List, ◌≡◌, ℕ, ◌+◌, ◌-◌, length}
use Rattle.pauli.specs.declared.Pauli.{Pauli}
use Rattle.refusals.specs.declared.Refusal.{Refusal}
use Rattle.code_record.specs.Record.{row_room, filled}
use Rattle.sheet.specs.Reader.{Parsed, Reader, got, stop, done, ◌and_then◌, logical_lines}
use Rattle.rows_reader.specs.declared.RowsFault.{RowsFault}
use Rattle.rows_reader.specs.declared.Rows.{Rows}
use Rattle.rows_reader.specs.declared.Logicals.{Logicals}

-- How many lines were read before the one that is refused.
abbrev pub before : {A : Type 0} → Result A RowsFault → ℕ
before (Ok read) = 0
before (Err (RowsFault.OffForm lines)) = lines
before (Err (RowsFault.Miscounted lines)) = lines

-- The refusal and the answer in a sheet, where the first of the lines is the line `at`.
abbrev pub refusal_at : ℕ → RowsFault → Refusal
refusal_at at (RowsFault.OffForm lines) = Refusal.Form (at + lines)
refusal_at at (RowsFault.Miscounted lines) = Refusal.GeneratorCount (at + lines)

abbrev pub lines_at : {A : Type 0} → ℕ → Result A RowsFault → Result A Refusal
lines_at at (Ok read) = Ok read
lines_at at (Err fault) = Err (refusal_at at fault)

-- The answer for g lines: how many bytes were read, the count of the rows, and the rows in an array; or the refusal. It
-- is what the definition gives, whichever line is the first.
unfoldable pub rows_answer : List ℕ → Parsed (List Pauli) → Result Rows Refusal
rows_answer s (got gs rest) =
    Ok (record { used = length s - length rest; count = length gs; rows = filled row_room gs })
rows_answer s (stop refusal) = Err refusal

abbrev pub AnswersRows : List ℕ → Result Rows RowsFault → (ℕ → Reader (List Pauli)) → Type 0
AnswersRows s r definition = (at : ℕ) → lines_at at r ≡ rows_answer s (definition at s)

-- RULES, "The sheet": k lines of X logicals, then k lines of Z logicals.
unfoldable pub pair_lines : ℕ → ℕ → ℕ → Reader (List Pauli × List Pauli)
pair_lines k n at =
    logical_lines k "x=" n at and_then λ xs.
    logical_lines k "z=" n (at + k) and_then λ zs.
    done (xs, zs)

-- The answer for x and z lines, in the same way.
unfoldable pub logicals_answer : List ℕ → Parsed (List Pauli × List Pauli) → Result Logicals Refusal
logicals_answer s (got ls rest) =
    Ok (record { used = length s - length rest; x = filled row_room ls.0; z = filled row_room ls.1 })
logicals_answer s (stop refusal) = Err refusal

abbrev pub AnswersLogicals : List ℕ → Result Logicals RowsFault → (ℕ → Reader (List Pauli × List Pauli)) → Type 0
AnswersLogicals s r definition = (at : ℕ) → lines_at at r ≡ logicals_answer s (definition at s)
