-- The number of an answer tells which it is.
use Rattle.pauli.specs.declared.Pauli.{Pauli}
use Rattle.std.specs.Prelude.{Option, Some, None, Result, Ok, Err}
use mathlib.Core.Path.{◌≡◌, refl}
use Prim.Native.Nat.{ℕ, ◌≤◌}
use native.Mathlib.Omega.{arith}
use Rattle.refusals.specs.declared.Refusal.{Refusal}
use Rattle.refusals.specs.declared.Refusal.TheVariants.{TooLong, Form, QubitCount, DistanceRange, GeneratorCount}
use Rattle.refusals.specs.declared.Refusal.TheVariants.{GeneratorsAnticommute, MinusIdentity, DependentGenerator}
use Rattle.refusals.specs.declared.Refusal.TheVariants.{LogicalAnticommutes, LogicalPairing, ClaimedWeight}
use Rattle.refusals.specs.declared.Refusal.TheVariants.{ClaimedAnticommutes, ClaimedInGroup, DistanceRefuted}
use Rattle.refusals.specs.declared.Refusal.TheVariants.{RecordLimits, Syndrome, ShortBuffer}
use Rattle.admission.specs.declared.Reading.{Reading}
use Rattle.decoder.specs.declared.Decoded.{Decoded}
use Rattle.rack_answers.specs.Answers.{none_number, done, no_correction, refused_answer, written_answer}
use Rattle.rack_answers.specs.Answers.{syndrome_answer, decoded_answer, no_value, correction_answer}
use Rattle.rack_answers.specs.Answers.{admission_answer, sheet_answer}
use Rattle.rack_answers.specs.Statements.{NumbersTell}

-- A refusal has a number from 1 to 17.
in-range : (refusal : Refusal) → (1 ≤ (refused_answer refusal).number) × ((refused_answer refusal).number ≤ 17)
in-range TooLong = omega arith
in-range (Form at) = omega arith
in-range (QubitCount at) = omega arith
in-range (DistanceRange at) = omega arith
in-range (GeneratorCount at) = omega arith
in-range (GeneratorsAnticommute at family) = omega arith
in-range (MinusIdentity at family) = omega arith
in-range (DependentGenerator at family) = omega arith
in-range (LogicalAnticommutes at family) = omega arith
in-range (LogicalPairing at family) = omega arith
in-range (ClaimedWeight at) = omega arith
in-range (ClaimedAnticommutes at) = omega arith
in-range (ClaimedInGroup at) = omega arith
in-range (DistanceRefuted at pair) = omega arith
in-range RecordLimits = omega arith
in-range (Syndrome at) = omega arith
in-range ShortBuffer = omega arith

not_done : (refusal : Refusal) → (refused_answer refusal).number ≡ 0 → ⊥
not_done refusal e = omega (arith, in-range refusal)

not_none : (refusal : Refusal) → (refused_answer refusal).number ≡ none_number → ⊥
not_none refusal e = omega (arith, in-range refusal)

admitted : (answer : Result Unit Refusal) → (admission_answer answer).number ≡ 0 → answer ≡ Ok tt
admitted (Ok tt) e = refl
admitted (Err refusal) e = absurd (not_done refusal e)

written : (answer : Result ℕ Refusal) → (written_answer answer).number ≡ 0 → answer ≡ Ok (written_answer answer).count
written (Ok m) e = refl
written (Err refusal) e = absurd (not_done refusal e)

measured : (r : ℕ) (answer : Result Unit Refusal) → (syndrome_answer r answer).number ≡ 0 → answer ≡ Ok tt
measured r (Ok tt) e = refl
measured r (Err refusal) e = absurd (not_done refusal e)

-- ---- decoding

decoded : (n : ℕ) (answer : Result Decoded Refusal) → (decoded_answer n answer).number ≡ 0
    → answer ≡ Ok Decoded.Correction
decoded n (Ok Decoded.Correction) e = refl
decoded n (Ok Decoded.None) e = absurd (omega arith)
decoded n (Err refusal) e = absurd (not_done refusal e)

undecoded : (n : ℕ) (answer : Result Decoded Refusal) → (decoded_answer n answer).number ≡ none_number
    → answer ≡ Ok Decoded.None
undecoded n (Ok Decoded.Correction) e = absurd (omega arith)
undecoded n (Ok Decoded.None) e = refl
undecoded n (Err refusal) e = absurd (not_none refusal e)

corrected : (answer : Result (Option Pauli) Refusal) → (correction_answer answer).answer.number ≡ 0
    → answer ≡ Ok (Some (correction_answer answer).correction)
corrected (Ok (Some P)) e = refl
corrected (Ok None) e = absurd (omega arith)
corrected (Err refusal) e = absurd (not_done refusal e)

uncorrected : (answer : Result (Option Pauli) Refusal) → (correction_answer answer).answer.number ≡ none_number
    → answer ≡ Ok None
uncorrected (Ok (Some P)) e = absurd (omega arith)
uncorrected (Ok None) e = refl
uncorrected (Err refusal) e = absurd (not_none refusal e)

pub numbers-tell : NumbersTell
numbers-tell = record {
  refusals = in-range;
  admitted = λ reading. admitted reading.answer;
  written = written;
  measured = measured;
  decoded = decoded;
  undecoded = undecoded;
  corrected = corrected;
  uncorrected = uncorrected;
}
