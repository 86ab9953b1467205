-- The account of a code in a report, and the call for it.
use Rattle.std.specs.Prelude.{Result, List, ◌++◌, ℕ}
use Prim.Native.Char.{code}
use Rattle.refusals.specs.declared.Refusal.{Refusal}
use Rattle.code_record.specs.declared.Code.{Code}
use Rattle.code_record.specs.Record.{logical_count, radius, qubit_fault}
use Rattle.sheet.specs.Text.{After, written}
use Rattle.rows_writer.specs.Rows.{rows_text}
use Rattle.reduced_rows.specs.declared.ReducedRows.{ReducedRows}
use Rattle.reduced_rows.specs.Rows.{rows_in}
use Rattle.letter_sums.specs.declared.LetterWords.{LetterWords}
use Rattle.letter_words.specs.Words.{syndrome_words}
use Rattle.reporting.specs.Report.{code_text}
use Rattle.header_writer.specs.Header.{header_text}
use Rattle.correction_lines.specs.CorrectionLines.{corrections_text}

-- RULES, "The report": the numbers and the canonical generators of a code, then the corrections for the syndromes with
-- whose lines the bytes begin.
unfoldable pub account_text : Code → List ℕ → List ℕ
account_text c s = code_text c ++ corrections_text (syndrome_words c) (radius c) c.r s

-- The same with rows and words that were made before.
unfoldable pub code_by : Code → ReducedRows → List ℕ
code_by c hs =
    header_text c.n (logical_count c) c.d (radius c) ++ rows_text (code "h") c.n (rows_in hs)

unfoldable pub account_by : Code → ReducedRows → LetterWords → List ℕ → List ℕ
account_by c hs words s = code_by c hs ++ corrections_text words (radius c) c.r s

-- RULES, "Calls and buffers": the account by rows that are given: 15 where n is not 2 to 24, then 17, then the lines
-- and their length.
unfoldable pub write_account : Code → ReducedRows → List ℕ → List ℕ → After (Result ℕ Refusal)
write_account c hs s buffer = written (qubit_fault c.n) (account_by c hs (syndrome_words c) s) buffer
