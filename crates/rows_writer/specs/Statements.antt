-- What is stated of the lines of several rows.
use Rattle.std.specs.Prelude.{Some}
use Rattle.std.specs.Result.{result_err}
use Rattle.std.specs.Prelude.{List, [], ◌∷◌, ◌≡◌, ℕ}
use Prim.Native.Char.{code}
use Prim.Native.String.{String}
use Rattle.pauli.specs.declared.Pauli.{Pauli}
use Rattle.letters.specs.Lists.{bytes}
use Rattle.refusals.specs.declared.Refusal.{Refusal}
use Rattle.sheet.specs.Statements.{RefusalLeaves, Among}
use Rattle.sheet.specs.Writer.{row_lines}
use Rattle.rows_writer.specs.Rows.{rows_text, write_rows}

-- They are the lines that the definitions of a sheet and of a report have.
abbrev pub RowsAreOfTheirKey : Type 0
RowsAreOfTheirKey =
    (key : String) (byte n : ℕ) (rows : List Pauli) → bytes key ≡ byte ∷ code "=" ∷ []
    → rows_text byte n rows ≡ row_lines key n rows

-- RULES, "Calls and buffers": a refusal leaves the buffer as it was.
abbrev pub RowsRefusalsLeave : Type 0
RowsRefusalsLeave =
    (key n : ℕ) (rows : List Pauli) (buffer : List ℕ)
    → RefusalLeaves result_err buffer (write_rows key n rows buffer)

-- RULES, "Calls and buffers": the numbers with which the call refuses.
abbrev pub RowsRefusalNumbers : Type 0
RowsRefusalNumbers =
    (key n : ℕ) (rows : List Pauli) (buffer : List ℕ) (refusal : Refusal)
    → result_err (write_rows key n rows buffer).answer ≡ Some refusal → Among (15 ∷ 17 ∷ []) refusal
