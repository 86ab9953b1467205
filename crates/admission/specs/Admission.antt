-- The whole reading of a sheet: its lines, and then its checks in the order of their numbers.
use Rattle.std.specs.Prelude.{Option, Some, None, Ok, Err}
use Rattle.std.specs.Prelude.{List, [], ◌≡◌, ℕ}
use Rattle.code_record.specs.declared.Code.{Code}
use Rattle.refusals.specs.declared.Refusal.{Refusal}
use Rattle.code_record.specs.Record.{generators, generators_at, empty_code}
use Rattle.refusals.specs.Refusals.{◌then◌}
use Rattle.sheet.specs.Reader.{SheetRead, Parsed, got, stop, read_form}
use Rattle.stabilizer.specs.Checks.{generator_fault}
use Rattle.admission.specs.declared.Reading.{Reading}
use Rattle.admission.specs.Logicals.{detected_fault, pairing_fault}
use Rattle.admission.specs.Distance.{claimed_weight_fault, claimed_detected_fault, claimed_in_group_fault}
use Rattle.admission.specs.Distance.{distance_fault}

-- RULES, "Admission": 6 to 13 in this order, and then 14. The line that w stands on is given to the checks of w.
unfoldable pub fault_but_distance : ℕ → Code → Option Refusal
fault_but_distance at c =
    generator_fault (generators_at c) (generators c) then detected_fault c then pairing_fault c
    then claimed_weight_fault at c then claimed_detected_fault at c then claimed_in_group_fault at c

unfoldable pub code_fault : ℕ → Code → Option Refusal
code_fault at c = fault_but_distance at c then distance_fault at c

-- RULES, "Calls and buffers": beside a refused reading stands the empty record.
unfoldable pub refused_reading : Refusal → Reading
refused_reading refusal = record { answer = Err refusal; code = empty_code }

unfoldable pub admitted : Code → Reading
admitted c = record { answer = Ok tt; code = c }

-- The reading of a sheet whose lines were read, by its first fault, and of a sheet by its lines.
unfoldable pub reading_of : Code → Option Refusal → Reading
reading_of c None = admitted c
reading_of c (Some refusal) = refused_reading refusal

unfoldable pub checked : Parsed SheetRead → Reading
checked (got q rest) = reading_of q.code (code_fault q.claim_at q.code)
checked (stop refusal) = refused_reading refusal

-- A sheet read by itself.
unfoldable pub read_sheet : List ℕ → Reading
read_sheet s = checked (read_form s)

-- RULES, "Admission": a sheet is admissible but for distance where no check other than 14 refuses it. q is what was
-- read.
pub record AdmissibleButForDistance (s : List ℕ) (q : SheetRead) : Type 0 where
  pub form : read_form s ≡ got q []
  pub checks : fault_but_distance q.claim_at q.code ≡ None
