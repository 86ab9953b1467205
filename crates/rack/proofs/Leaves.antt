-- Only a call that answers 0 has written: the refusals of the calls below leave the buffer, and so does `none`.
use Rattle.std.specs.Prelude.{Result, Ok, Err}
use Rattle.std.specs.Result.{result_err}
use mathlib.Core.List.{List}
use mathlib.Core.Path.{◌≡◌, refl}
use Prim.Native.Nat.{ℕ}
use Rattle.refusals.specs.declared.Refusal.{Refusal}
use Rattle.sheet.specs.Statements.{RefusalLeaves}
use Rattle.sheet.specs.Text.{After}
use Rattle.sheet.proofs.Untouched.{writer-refusals-leave}
use Rattle.stabilizer.proofs.Untouched.{canonical-refusals-leave}
use Rattle.decoder.specs.declared.Decoded.{Decoded}
use Rattle.decoder.specs.Correction.{decode}
use Rattle.decoder.proofs.Untouched.{decoder-refusals-leave}
use Rattle.reporting.proofs.Report.{report-refusals-leave}
use Rattle.rack_answers.specs.Answers.{written_answer, syndrome_answer, decoded_answer}
use Rattle.rack.specs.Calls.{in_numbers, sheet_call, canonical_call, syndrome_call, decode_call, report_call}
use Rattle.rack.specs.Statements.{OnlyDoneWrites, CallsLeave}

module _ (buffer left : List ℕ) where
  -- A text's call.
  of-written : (answer : Result ℕ Refusal) → RefusalLeaves result_err buffer (record { answer = answer; buffer = left })
      → OnlyDoneWrites buffer (in_numbers written_answer (record { answer = answer; buffer = left }))
  unfolding in_numbers
  of-written (Ok m) leaves undone = absurd (undone refl)
  of-written (Err refusal) leaves undone = (leaves.unchanged refusal refl, refl)

  of-syndrome : (r : ℕ) (answer : Result Unit Refusal)
      → RefusalLeaves result_err buffer (record { answer = answer; buffer = left })
      → OnlyDoneWrites buffer (in_numbers (syndrome_answer r) (record { answer = answer; buffer = left }))
  unfolding in_numbers
  of-syndrome r (Ok tt) leaves undone = absurd (undone refl)
  of-syndrome r (Err refusal) leaves undone = (leaves.unchanged refusal refl, refl)

  of-decoded : (n : ℕ) (answer : Result Decoded Refusal)
      → RefusalLeaves result_err buffer (record { answer = answer; buffer = left })
      → (answer ≡ Ok Decoded.None → left ≡ buffer)
      → OnlyDoneWrites buffer (in_numbers (decoded_answer n) (record { answer = answer; buffer = left }))
  unfolding in_numbers
  of-decoded n (Ok Decoded.Correction) leaves missing undone = absurd (undone refl)
  of-decoded n (Ok Decoded.None) leaves missing undone = (missing refl, refl)
  of-decoded n (Err refusal) leaves missing undone = (leaves.unchanged refusal refl, refl)

pub calls-leave : CallsLeave
unfolding sheet_call canonical_call syndrome_call decode_call report_call
calls-leave = record {
  sheets = λ c buffer. of-written buffer _ _ (writer-refusals-leave c buffer);
  canonicals = λ c buffer. of-written buffer _ _ (canonical-refusals-leave c buffer);
  syndromes = λ c P buffer. of-syndrome buffer _ c.r _ (decoder-refusals-leave.syndromes c P buffer);
  corrections = λ c characters buffer. of-decoded buffer _ c.n _
      (decoder-refusals-leave.corrections c characters buffer)
      (decoder-refusals-leave.missing c characters buffer);
  reports = λ input buffer. of-written buffer _ _ (report-refusals-leave input buffer);
}
