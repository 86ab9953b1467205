-- What the readers of lines with letters answer, in the terms of the sheet's definitions.
use Rattle.std.specs.Prelude.{Option, Some, None}
use Rattle.std.specs.Prelude.{cond, List, ◌≡◌, ℕ, ◌+◌, ◌≤◌, ltb, length, drop}
use Rattle.pauli.specs.declared.Pauli.{Pauli}
use Rattle.refusals.specs.declared.Refusal.{Refusal}
use Rattle.code_record.specs.Record.{most_qubits}
use Rattle.sheet.specs.Reader.{Parsed, Reader, got, stop, line_of, read_row}
use Rattle.line_parts.specs.LineValues.{key_of}
use Rattle.row_reader.specs.declared.RowRead.{RowRead}

-- RULES, "The sheet": a sign with n letters, behind any key.
abbrev pub row_behind_key : ℕ → ℕ → Reader Pauli
row_behind_key n at s = line_of (key_of s) (n + 1) read_row (Refusal.Form at) s

-- A row of more qubits than a sheet may have is off its form.
unfoldable pub within_qubits : {A : Type 0} → ℕ → ℕ → Reader A → Reader A
within_qubits n at reader s = cond (ltb most_qubits n) (stop (Refusal.Form at)) (reader s)

-- How many bytes a line took.
abbrev pub bytes_of : Option RowRead → ℕ
bytes_of (Some read) = read.used
bytes_of None = 0

-- What a line was read as, where it is the line `at`.
abbrev pub row_at : ℕ → List ℕ → Option RowRead → Parsed Pauli
row_at at s (Some read) = got read.row (drop read.used s)
row_at at s None = stop (Refusal.Form at)

-- The answer is what the definition gives, whichever line it is, and the line took no more bytes than there are.
pub record AnswersRow (s : List ℕ) (r : Option RowRead) (definition : ℕ → Reader Pauli) : Type 0 where
  pub within : bytes_of r ≤ length s
  pub gives : (at : ℕ) → row_at at s r ≡ definition at s
