-- The call for the `c=` lines of a report.
use Rattle.std.specs.Prelude.{Result, List, ℕ}
use Rattle.refusals.specs.declared.Refusal.{Refusal}
use Rattle.code_record.specs.Record.{qubit_fault}
use Rattle.sheet.specs.Text.{After, written}
use Rattle.letter_sums.specs.declared.LetterWords.{LetterWords}
use Rattle.correction_lines.specs.CorrectionLines.{corrections_text}

-- RULES, "Calls and buffers": the lines by themselves: 15 where no code has so many qubits, then 17, then the lines and
-- their length.
unfoldable pub write_corrections : LetterWords → ℕ → ℕ → List ℕ → List ℕ → After (Result ℕ Refusal)
write_corrections words t r s buffer = written (qubit_fault words.qubits) (corrections_text words t r s) buffer
