-- What is stated of the answers as numbers.
use Rattle.pauli.specs.declared.Pauli.{Pauli}
use Rattle.std.specs.Prelude.{Option, Some, None, Result, Ok, ◌≡◌, ℕ, ◌≤◌}
use Rattle.refusals.specs.declared.Refusal.{Refusal}
use Rattle.admission.specs.declared.Reading.{Reading}
use Rattle.decoder.specs.declared.Decoded.{Decoded}
use Rattle.rack_answers.specs.Answers.{none_number, refused_answer, written_answer, syndrome_answer, decoded_answer}
use Rattle.rack_answers.specs.Answers.{correction_answer, sheet_answer}

-- RULES, "The library": the number of an answer tells which it is. A refusal has 1 to 17, so 0 is done alone, and 255
-- is `none` alone.
pub record NumbersTell : Type 0 where
  pub refusals : (refusal : Refusal)
      → (1 ≤ (refused_answer refusal).number) × ((refused_answer refusal).number ≤ 17)
  pub admitted : (reading : Reading) → (sheet_answer reading).answer.number ≡ 0 → reading.answer ≡ Ok tt
  pub written : (answer : Result ℕ Refusal) → (written_answer answer).number ≡ 0
      → answer ≡ Ok (written_answer answer).count
  pub measured : (r : ℕ) (answer : Result Unit Refusal) → (syndrome_answer r answer).number ≡ 0 → answer ≡ Ok tt
  pub decoded : (n : ℕ) (answer : Result Decoded Refusal) → (decoded_answer n answer).number ≡ 0
      → answer ≡ Ok Decoded.Correction
  pub undecoded : (n : ℕ) (answer : Result Decoded Refusal) → (decoded_answer n answer).number ≡ none_number
      → answer ≡ Ok Decoded.None
  pub corrected : (answer : Result (Option Pauli) Refusal) → (correction_answer answer).answer.number ≡ 0
      → answer ≡ Ok (Some (correction_answer answer).correction)
  pub uncorrected : (answer : Result (Option Pauli) Refusal) → (correction_answer answer).answer.number ≡ none_number
      → answer ≡ Ok None
