-- The answers of calls as numbers, as programs in C have them.
use Rattle.pauli.specs.declared.Pauli.{Pauli}
use Rattle.refusals.specs.declared.Family.{Family}
use Rattle.std.specs.Prelude.{Option, Some, None, Result, Ok, Err, ℕ}
use Rattle.pauli.specs.Product.{identity}
use Rattle.refusals.specs.declared.ErrorPair.{ErrorPair}
use Rattle.refusals.specs.declared.Refusal.{Refusal}
use Rattle.refusals.specs.Families.{key_byte}
use Rattle.refusals.specs.Refusals.{values, answered_values}
use Rattle.admission.specs.declared.Reading.{Reading}
use Rattle.decoder.specs.declared.Decoded.{Decoded}
use Rattle.rack_answers.specs.declared.Answer.{Answer}
use Rattle.rack_answers.specs.declared.CorrectionAnswer.{CorrectionAnswer}
use Rattle.rack_answers.specs.declared.SheetAnswer.{SheetAnswer}

-- ---- one answer

-- RULES, "The library": 0, with the count of bytes written.
abbrev pub done : ℕ → Answer
done count = record { number = 0; family = 0; line = 0; count = count }

-- RULES, "The library": 255 is `none`, which is no refusal.
abbrev pub none_number : ℕ
none_number = 255

abbrev pub no_correction : Answer
no_correction = record { number = none_number; family = 0; line = 0; count = 0 }

-- RULES, "The library": a family is the byte of its key, and 0 where a refusal is about no row.
abbrev pub family_byte : Option Family → ℕ
family_byte None = 0
family_byte (Some family) = key_byte family

-- RULES, "The library": a refusal has its number, its family and its line.
abbrev pub refused_answer : Refusal → Answer
refused_answer refusal =
    let v = answered_values (values refusal) in
    record { number = v.number; family = family_byte v.family; line = v.line; count = 0 }

-- ---- the answers of the calls

abbrev pub written_answer : Result ℕ Refusal → Answer
written_answer (Ok m) = done m
written_answer (Err refusal) = refused_answer refusal

-- Of the syndrome call on a record of r generators.
abbrev pub syndrome_answer : ℕ → Result Unit Refusal → Answer
syndrome_answer r (Ok tt) = done r
syndrome_answer r (Err refusal) = refused_answer refusal

-- Of the decode call on a record of n qubits.
abbrev pub decoded_answer : ℕ → Result Decoded Refusal → Answer
decoded_answer n (Ok Decoded.Correction) = done n
decoded_answer n (Ok Decoded.None) = no_correction
decoded_answer n (Err refusal) = refused_answer refusal

-- Of the decode call that counts its letters.
abbrev pub letters_answer : Result (Option ℕ) Refusal → Answer
letters_answer (Ok (Some n)) = done n
letters_answer (Ok None) = no_correction
letters_answer (Err refusal) = refused_answer refusal

-- RULES, "The library": beside a refusal and `none` the correction is +I.
abbrev pub no_value : Answer → CorrectionAnswer
no_value answer = record { answer = answer; correction = identity }

abbrev pub correction_answer : Result (Option Pauli) Refusal → CorrectionAnswer
correction_answer (Ok (Some P)) = record { answer = done 0; correction = P }
correction_answer (Ok None) = no_value no_correction
correction_answer (Err refusal) = no_value (refused_answer refusal)

-- RULES, "The library": 14 has its two errors, and every other answer two +I on 0 qubits.
abbrev pub errors_in : Option ErrorPair → ErrorPair
errors_in None = record { n = 0; e = identity; f = identity }
errors_in (Some pair) = pair

abbrev pub admission_answer : Result Unit Refusal → Answer
admission_answer (Ok tt) = done 0
admission_answer (Err refusal) = refused_answer refusal

abbrev pub admission_errors : Result Unit Refusal → Option ErrorPair
admission_errors (Ok tt) = None
admission_errors (Err refusal) = (values refusal).errors

abbrev pub sheet_answer : Reading → SheetAnswer
sheet_answer reading = record {
  answer = admission_answer reading.answer;
  errors = errors_in (admission_errors reading.answer);
  code = reading.code;
}
