-- Answers as numbers, computed.
use Rattle.std.specs.Prelude.{Ok, Err}
use mathlib.Core.Path.{◌≡◌, refl}
use Prim.Native.Char.{code}
use Rattle.pauli.specs.Product.{identity}
use Rattle.refusals.specs.declared.Family.{Family}
use Rattle.refusals.specs.declared.Refusal.{Refusal}
use Rattle.code_record.specs.Record.{empty_code}
use Rattle.admission.specs.Admission.{refused_reading}
use Rattle.rack_answers.specs.Answers.{done, family_byte, refused_answer, written_answer}
use Rattle.rack_answers.specs.Answers.{errors_in, admission_answer, admission_errors, sheet_answer}

-- a row's refusal has its family
row-refused :
    written_answer (Err (Refusal.DependentGenerator 5 Family.Generator))
    ≡ record { number = 8; family = code "g"; line = 5; count = 0 }
row-refused = refl

counted : written_answer (Ok 70) ≡ record { number = 0; family = 0; line = 0; count = 70 }
counted = refl

-- 14 has its two errors
refuted :
    sheet_answer (refused_reading (Refusal.DistanceRefuted 9 (record { n = 5; e = identity; f = identity })))
    ≡ record {
      answer = record { number = 14; family = 0; line = 9; count = 0 };
      errors = record { n = 5; e = identity; f = identity };
      code = empty_code;
    }
unfolding refused_reading
refuted = refl
