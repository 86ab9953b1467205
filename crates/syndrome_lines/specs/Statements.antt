-- What is stated of the readers, in the terms of the report's definitions.
use Rattle.std.specs.Prelude.{Some, None, Bool, List, [], ◌≡◌, ℕ, ◌≤◌, length, drop}
use Rattle.pauli.specs.Syndrome.{mask_of_bits}
use Rattle.refusals.specs.declared.Refusal.{Refusal}
use Rattle.code_record.specs.declared.Code.{Code}
use Rattle.code_record.specs.Record.{row_room}
use Rattle.sheet.specs.Reader.{got, stop}
use Rattle.reporting.specs.Report.{syndrome_line, syndrome_lines}
use Rattle.syndrome_lines.specs.SyndromeLines.{mask_line, syndrome_length, check_lines, line_fault, lines_fault}

-- RULES, "The report": the readers read the lines that a report reads, and where it refuses a line with 16 they name
-- the same one. A record has room for 32 generators, and with more nothing is read.
pub record SyndromeLinesAreRead : Type 0 where
  -- of one line
  pub line : (c : Code) (at : ℕ) (s : List ℕ) (m : ℕ) → mask_line c.r s ≡ Some m
      → (bits : List Bool) × (syndrome_line c at s ≡ got bits (drop (syndrome_length c.r) s)) × (m ≡ mask_of_bits bits)
  pub malformed : (c : Code) (at : ℕ) (s : List ℕ) (refusal : Refusal) → c.r ≤ row_room
      → line_fault at (mask_line c.r s) ≡ Some refusal → syndrome_line c at s ≡ stop refusal
  -- of all lines
  pub read : (c : Code) (at : ℕ) (s : List ℕ) → lines_fault at (check_lines c.r s) ≡ None
      → (syndromes : List (List Bool)) × (syndrome_lines (length s) c at s ≡ got syndromes [])
  pub off_form : (c : Code) (at : ℕ) (s : List ℕ) (refusal : Refusal) → c.r ≤ row_room
      → lines_fault at (check_lines c.r s) ≡ Some refusal → syndrome_lines (length s) c at s ≡ stop refusal
