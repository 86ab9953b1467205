-- The writer's call on the record of an admitted sheet writes that sheet, or refuses with 17: the record is within its
-- limits, and its text is the sheet.
use Rattle.std.specs.Prelude.{None, Ok}
use mathlib.Core.List.{List}
use mathlib.Core.Path.{◌≡◌, ap, ◌∙◌}
use Prim.Native.Nat.{ℕ}
use Rattle.code_record.specs.Record.{limits_fault}
use Rattle.sheet.specs.Text.{written}
use Rattle.sheet.specs.Writer.{write_sheet}
use Rattle.sheet.proofs.WrittenText.{limits-kept, written-short, written-whole}
use Rattle.admission.specs.Admission.{read_sheet}
use Rattle.admission.specs.Statements.{AdmittedSheetIsWritten}
use Rattle.admission.proofs.Admitted.{admitted-as, admitted-lawful, admitted-sheet-returns}

module _ (s buffer : List ℕ) (h : (read_sheet s).answer ≡ Ok tt) where
  within-limits : limits_fault (read_sheet s).code ≡ None
  within-limits = limits-kept _ (admitted-lawful s _ (admitted-as s h)).limits

  writes-sheet : write_sheet (read_sheet s).code buffer ≡ written (limits_fault (read_sheet s).code) s buffer
  unfolding write_sheet
  writes-sheet =
      ap (λ (text : List ℕ). written (limits_fault (read_sheet s).code) text buffer) (admitted-sheet-returns s h)

pub admitted-sheet-is-written : AdmittedSheetIsWritten
admitted-sheet-is-written = record {
  whole = λ s buffer h room. writes-sheet s buffer h ∙ written-whole s buffer (within-limits s buffer h) room;
  short = λ s buffer h small. writes-sheet s buffer h ∙ written-short s buffer (within-limits s buffer h) small;
}
