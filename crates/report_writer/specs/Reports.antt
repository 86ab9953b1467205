-- The report of a code that passed its checks, by the check of the lines behind its sheet.
use Rattle.std.specs.Prelude.{Option, Some, None, Result, List, ℕ, ◌+◌}
use Rattle.code_record.specs.declared.Code.{Code}
use Rattle.refusals.specs.declared.Refusal.{Refusal}
use Rattle.sheet.specs.Text.{After}
use Rattle.reduced_rows.specs.declared.ReducedRows.{ReducedRows}
use Rattle.syndrome_lines.specs.SyndromeLines.{check_lines, lines_fault}
use Rattle.refusal_writer.specs.RefusalLines.{write_refusal}
use Rattle.account_writer.specs.Account.{write_account}

-- RULES, "The report": the lines of the fault, or the account of the code by its canonical generators.
unfoldable pub write_by_fault : Code → ReducedRows → List ℕ → List ℕ → Option Refusal → After (Result ℕ Refusal)
write_by_fault c hs s buffer None = write_account c hs s buffer
write_by_fault c hs s buffer (Some refusal) = write_refusal refusal buffer

-- RULES, "The report": 16 at the first line behind w that is no syndrome's. w is on the line `at`, and the first of
-- them on the line behind it.
unfoldable pub write_checked : Code → ReducedRows → ℕ → List ℕ → List ℕ → After (Result ℕ Refusal)
write_checked c hs at s buffer = write_by_fault c hs s buffer (lines_fault (at + 1) (check_lines c.r s))
