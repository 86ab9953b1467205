-- The call for the lines of a refusal.
use Rattle.std.specs.Prelude.{Option, Some, None, Result, List, ℕ}
use Rattle.refusals.specs.declared.ErrorPair.{ErrorPair}
use Rattle.refusals.specs.declared.Refusal.{Refusal}
use Rattle.refusals.specs.Refusals.{values}
use Rattle.code_record.specs.Record.{qubit_fault}
use Rattle.sheet.specs.Text.{After, written}
use Rattle.reporting.specs.Report.{refusal_text}

-- RULES, "Calls and buffers": 15, where two errors are not on 2 to 24 qubits.
unfoldable pub errors_fault : Option ErrorPair → Option Refusal
errors_fault None = None
errors_fault (Some pair) = qubit_fault pair.n

unfoldable pub pair_fault : Refusal → Option Refusal
pair_fault refusal = errors_fault (values refusal).errors

-- RULES, "Calls and buffers": the lines of a refusal by themselves, as a report has them: 15 by its two errors, then
-- 17, then the lines and their length.
unfoldable pub write_refusal : Refusal → List ℕ → After (Result ℕ Refusal)
write_refusal refusal buffer = written (pair_fault refusal) (refusal_text refusal) buffer
