-- The calls for programs in C: those of the layers below, with their answers as numbers. A call leaves the buffer as
-- the call that it makes does.
use Rattle.std.specs.Prelude.{List, ℕ}
use Rattle.pauli.specs.declared.Pauli.{Pauli}
use Rattle.code_record.specs.declared.Code.{Code}
use Rattle.sheet.specs.Text.{After}
use Rattle.sheet.specs.Writer.{write_sheet}
use Rattle.stabilizer.specs.Canonical.{write_canonical}
use Rattle.admission.specs.Admission.{read_sheet}
use Rattle.decoder.specs.Correction.{decode}
use Rattle.decoder.specs.Syndrome.{write_syndrome}
use Rattle.mask_decoding.specs.Masks.{decode_mask}
use Rattle.reporting.specs.Report.{write_report}
use Rattle.rack_answers.specs.declared.Answer.{Answer}
use Rattle.rack_answers.specs.declared.CorrectionAnswer.{CorrectionAnswer}
use Rattle.rack_answers.specs.declared.SheetAnswer.{SheetAnswer}
use Rattle.rack_answers.specs.Answers.{written_answer, syndrome_answer, decoded_answer, correction_answer, sheet_answer}

-- RULES, "The library": what a call answers, as numbers.
unfoldable pub in_numbers : {A : Type 0} → (A → Answer) → After A → After Answer
in_numbers numbers after = record { answer = numbers after.answer; buffer = after.buffer }

unfoldable pub read_call : List ℕ → SheetAnswer
read_call s = sheet_answer (read_sheet s)

unfoldable pub sheet_call : Code → List ℕ → After Answer
sheet_call c buffer = in_numbers written_answer (write_sheet c buffer)

unfoldable pub canonical_call : Code → List ℕ → After Answer
canonical_call c buffer = in_numbers written_answer (write_canonical c buffer)

-- RULES, "The library": a syndrome has r characters, and a correction n letters.
unfoldable pub syndrome_call : Code → Pauli → List ℕ → After Answer
syndrome_call c P buffer = in_numbers (syndrome_answer c.r) (write_syndrome c P buffer)

unfoldable pub decode_call : Code → List ℕ → List ℕ → After Answer
decode_call c characters buffer = in_numbers (decoded_answer c.n) (decode c characters buffer)

unfoldable pub correct_call : Code → ℕ → CorrectionAnswer
correct_call c mask = correction_answer (decode_mask c mask)

unfoldable pub report_call : List ℕ → List ℕ → After Answer
report_call input buffer = in_numbers written_answer (write_report input buffer)
