-- How long the longest sheet is. A sheet that is read is the text of a record within limits (ReadBack), and such a text
-- has no more bytes (Lengths); a sheet with n = 24, r = 1 has as many.
use mathlib.Core.List.{List, [], append-nil}
use mathlib.Core.Path.{◌≡◌, refl}
use Prim.Native.Nat.{ℕ, ◌≤◌}
use lib.ListN.{length}
use Rattle.code_record.specs.Record.{code_of}
use Rattle.sheet.specs.Reader.{SheetRead, got, read_form}
use Rattle.sheet.specs.Statements.{longest_sheet, LongestSheet}
use Rattle.sheet.specs.Writer.{sheet_text}
use Rattle.sheet.proofs.Examples.{code24, longest, longest-returns}
use Rattle.sheet.proofs.Lengths.{sheet_text-le}
use Rattle.sheet.proofs.Outcome.{what_was-got}
use Rattle.sheet.proofs.ReadBack.{read-form-outcome}

at_most : (s : List ℕ) (q : SheetRead) → read_form s ≡ got q [] → length s ≤ longest_sheet
at_most s q e =
    let h = what_was-got (read-form-outcome s) e in
    rw (h.bytes_read, append-nil) (sheet_text-le q.code h.lawful.sized h.lawful.limits)

pub longest-sheet : LongestSheet
unfolding code24 code_of
longest-sheet = record { most = at_most; reached = (sheet_text code24, _, longest-returns, refl, refl, longest) }
