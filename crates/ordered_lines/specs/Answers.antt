-- What the readers of the lines in their order answer, in the terms of the sheet's definitions.
use Rattle.std.specs.Prelude.{cond, ◌||◌, List, ◌≡◌, ℕ, ◌+◌, ltb, length, drop}
use Rattle.pauli.specs.declared.Pauli.{Pauli}
use Rattle.refusals.specs.declared.Refusal.{Refusal}
use Rattle.code_record.specs.declared.LinesReading.{LinesReading}
use Rattle.code_record.specs.Record.{most_qubits, row_room, first_generator_at, filled, code_of}
use Rattle.sheet.specs.Reader.{Reader, SheetRead, stop, done, ◌and_then◌, answered}
use Rattle.sheet.specs.Reader.{generator_lines, claim_line, lines_after}
use Rattle.rows_reader.specs.declared.Rows.{Rows}

-- ---- the readers of what is left from a line on

-- The line of w, which stands on the line `at`, and the record.
abbrev pub with_claim : (n d at : ℕ) → (gs xs zs : List Pauli) → Reader SheetRead
with_claim n d at gs xs zs =
    claim_line n at and_then λ w.
    done (record { code = code_of n d gs xs zs w; claim_at = at })

-- The g lines and all that follow.
abbrev pub lines_from_g : (n d : ℕ) → Reader SheetRead
lines_from_g n d =
    generator_lines n first_generator_at and_then λ gs.
    lines_after n d (first_generator_at + length gs) gs

-- The same from a byte on. Where there is no such byte, and where a sheet may not have n qubits, the first line is off
-- its form.
unfoldable pub rows_and_claim : (from n d : ℕ) → Reader SheetRead
rows_and_claim from n d s =
    cond (ltb most_qubits n || ltb (length s) from) (stop (Refusal.Form first_generator_at))
    (lines_from_g n d (drop from s))

-- What is read from a byte on.
abbrev pub ReadsOn : List ℕ → ℕ → Reader SheetRead → LinesReading → Type 0
ReadsOn s from reader reading = reading ≡ answered s (reader (drop from s))

-- The same behind the rows that the arrays hold.
abbrev pub counted_rows : List Pauli → ℕ × List Pauli
counted_rows rows = (length rows, filled row_room rows)

abbrev pub filled_logicals : (xs zs : List Pauli) → List Pauli × List Pauli
filled_logicals xs zs = (filled row_room xs, filled row_room zs)

abbrev pub ReadsAfter : List ℕ → ℕ → Rows → (List Pauli → Reader SheetRead) → LinesReading → Type 0
ReadsAfter s from generators after reading =
    (gs : List Pauli) → counted_rows gs ≡ (generators.count, generators.rows) → ReadsOn s from (after gs) reading
