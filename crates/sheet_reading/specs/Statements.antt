-- What is stated of the records that the calls read.
use Rattle.std.specs.Prelude.{None, Ok}
use Rattle.std.specs.Prelude.{List, ◌≡◌, ℕ}
use Rattle.code_record.specs.Record.{limits_fault}
use Rattle.sheet.specs.Reader.{lines_reading, form_reading}
use Rattle.admission.specs.Admission.{read_sheet}

-- RULES, "The record": no record that was read is refused with 15, whatever call it is given to. It may come from the
-- lines of a sheet with anything behind them, from the form of a sheet by itself, or from an admitted sheet.
pub record ReadRecordsAreWithinLimits : Type 0 where
  pub lines : (s : List ℕ) (used : ℕ) → (lines_reading s).answer ≡ Ok used
      → limits_fault (lines_reading s).code ≡ None
  pub form : (s : List ℕ) (used : ℕ) → (form_reading s).answer ≡ Ok used
      → limits_fault (form_reading s).code ≡ None
  pub sheet : (s : List ℕ) → (read_sheet s).answer ≡ Ok tt → limits_fault (read_sheet s).code ≡ None
