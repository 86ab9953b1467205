-- The report as a function from bytes to bytes.
use Rattle.std.specs.Prelude.{Option, Some, None, Result}
use Rattle.std.specs.Prelude.{Bool, ℕ, zero, suc, ◌+◌, length}
use mathlib.Core.List.{List, [], ◌∷◌, ◌++◌, map, flat_map}
use Rattle.letters.specs.Lists.{bytes}
use Rattle.letters.specs.declared.Letter.{Letter}
use Rattle.pauli.specs.Letters.{letter_text}
use Rattle.letters.specs.Letters.{letter_byte}
use Rattle.code_record.specs.declared.Code.{Code}
use Rattle.refusals.specs.declared.ErrorPair.{ErrorPair}
use Rattle.refusals.specs.declared.Refusal.{Refusal}
use Rattle.refusals.specs.Refusals.{values}
use Rattle.code_record.specs.Record.{logical_count, radius}
use Rattle.sheet.specs.Text.{line, decimal, After, written}
use Rattle.sheet.specs.Reader.{SheetRead, Reader, Parsed, got, stop, done, ◌and_then◌, read_line, read_lines}
use Rattle.stabilizer.specs.Canonical.{canonical_text}
use Rattle.admission.specs.Admission.{code_fault}
use Rattle.decoder.specs.Syndrome.{read_syndrome}
use Rattle.decoder.specs.Correction.{correction}

-- RULES, "The report": so many bytes hold every report.
abbrev pub longest_report : ℕ
longest_report = 32768

-- RULES, "The report": for 14 the letters of E and F.
unfoldable pub errors_text : Option ErrorPair → List ℕ
errors_text None = []
errors_text (Some pair) = line "e=" (letter_text pair.n pair.e) ++ line "f=" (letter_text pair.n pair.f)

-- RULES, "The report": an input with a fault has only the lines of its refusal.
unfoldable pub refusal_text : Refusal → List ℕ
refusal_text refusal =
    let v = values refusal in
    line "r=" (decimal v.number) ++ line "at=" (decimal v.line) ++ errors_text v.errors

-- RULES, "The report": a line behind w is `s=`, r characters 0 or 1 and a line feed, and else 16.
unfoldable pub syndrome_line : Code → ℕ → Reader (List Bool)
syndrome_line c at = read_line "s=" c.r (read_syndrome c.r) (Refusal.Syndrome at)

-- The `s=` lines from the line `at` on, to the end of the input. A line has a byte at least, so as many lines as bytes
-- are enough.
unfoldable pub syndrome_lines : ℕ → Code → ℕ → Reader (List (List Bool))
syndrome_lines zero c at [] = got [] []
syndrome_lines zero c at (b ∷ s) = stop (Refusal.Syndrome at)
syndrome_lines (suc most) c at [] = got [] []
syndrome_lines (suc most) c at (b ∷ s) =
    (syndrome_line c at and_then λ bits. syndrome_lines most c (at + 1) and_then λ later. done (bits ∷ later)) (b ∷ s)

-- RULES, "The report": one `c=` line for each syndrome, with the letters of its correction or `none`.
unfoldable pub correction_value : Option (List Letter) → List ℕ
correction_value None = bytes "none"
correction_value (Some s) = map letter_byte s

unfoldable pub correction_line : Code → List Bool → List ℕ
correction_line c bits = line "c=" (correction_value (correction c bits))

-- RULES, "The report": the numbers n, k, d and t, and the canonical generators.
unfoldable pub code_text : Code → List ℕ
code_text c =
    line "n=" (decimal c.n) ++ line "k=" (decimal (logical_count c)) ++ line "d=" (decimal c.d)
    ++ line "t=" (decimal (radius c)) ++ canonical_text c

-- The report of the code c, by what was read of the `s=` lines.
unfoldable pub report_of_syndromes : Code → Parsed (List (List Bool)) → List ℕ
report_of_syndromes c (got syndromes end) = code_text c ++ flat_map (correction_line c) syndromes
report_of_syndromes c (stop refusal) = refusal_text refusal

-- The report of a sheet that was read, with these bytes behind w, by the first fault of its record.
unfoldable pub report_of_code : SheetRead → List ℕ → Option Refusal → List ℕ
report_of_code q rest None =
    report_of_syndromes q.code (syndrome_lines (length rest) q.code (q.claim_at + 1) rest)
report_of_code q rest (Some refusal) = refusal_text refusal

-- The report by what was read of the sheet's lines.
unfoldable pub report_of_lines : Parsed SheetRead → List ℕ
report_of_lines (got q rest) = report_of_code q rest (code_fault q.claim_at q.code)
report_of_lines (stop refusal) = refusal_text refusal

-- RULES, "The report": a sheet, and then any number of `s=` lines. First the sheet's lines, then 6 to 14, then 16.
unfoldable pub report_text : List ℕ → List ℕ
report_text s = report_of_lines (read_lines s)

-- RULES, "Calls and buffers": a report writes the refusals of its input as text, and its own refusal is 17.
unfoldable pub write_report : List ℕ → List ℕ → After (Result ℕ Refusal)
write_report s buffer = written None (report_text s) buffer
