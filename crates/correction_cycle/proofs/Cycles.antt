-- What three calls in a row tell, as the cycle that the third guarantee speaks of. The buffer between them has room for
-- every syndrome.
use Rattle.std.specs.Prelude.{Result, Ok}
use mathlib.Core.List.{List}
use mathlib.Core.Path.{◌≡◌, ap, ap₂, sym, subst, ◌∙◌}
use Prim.Native.Nat.{ℕ, ◌≤◌, min}
use native.Mathlib.Decide.{dec_le}
use native.Mathlib.Omega.{arith}
use lib.ListN.{length, take}
use lib.Seq.{take_all}
use Rattle.refusals.specs.declared.Refusal.{Refusal}
use Rattle.pauli.specs.declared.Pauli.{Pauli}
use Rattle.code_record.specs.Record.{row_room}
use Rattle.code_record.proofs.Limits.{limits}
use Rattle.sheet.specs.Text.{After}
use Rattle.admission.specs.declared.Reading.{Reading}
use Rattle.admission.specs.Admission.{read_sheet}
use Rattle.admission.proofs.Admitted.{admitted-as, admitted-lawful}
use Rattle.decoder.specs.declared.Decoded.{Decoded}
use Rattle.decoder.specs.Correction.{decode}
use Rattle.decoder.specs.EndToEnd.{cycle, Correctable, Guaranteed}
use Rattle.decoder.specs.Syndrome.{write_syndrome}
use Rattle.decoder.proofs.EndToEnd.{end_to_end}
use Rattle.correction_cycle.specs.Zeros.{zeros}

-- A part that ends at the slice's end at the latest is what `take` gives.
take_within : (m : ℕ) (l : List ℕ) → take (min m (length l)) l ≡ take m l
take_within m l = elim (dec_le m (length l)) [
  | yes h ↦ let within : min m (length l) ≡ m = omega arith in ap (λ (k : ℕ). take k l) within
  | no h ↦
      let all : min m (length l) ≡ length l = omega arith in
      ap (λ (k : ℕ). take k l) all ∙ take_all (length l) l (omega arith) ∙ sym (take_all m l (omega arith))
]

-- A sheet that is admitted has no more generators than a record has room for.
admitted-fits : (s : List ℕ) → (read_sheet s).answer ≡ Ok tt → (read_sheet s).code.r ≤ length zeros
unfolding zeros
admitted-fits s h =
    let l = limits (read_sheet s).code (admitted-lawful s _ (admitted-as s h)).limits in
    omega (arith, l.qubits, l.generator_count)

guaranteed : (s : List ℕ) (E : Pauli) (second : List ℕ) → Guaranteed s E second (cycle s E zeros second).decoded
guaranteed s E second = record {
  corrected = λ h. (of h).corrected h;
  short = λ h. (of h).short h;
  never = λ h. (of h).never h;
}
  where
    of : Correctable s E → Guaranteed s E second (cycle s E zeros second).decoded
    of h = end_to_end.decoded s E zeros second (admitted-fits s h.is_admitted)

module _ (s second : List ℕ) (E : Pauli) (reading : Reading) (characters : List ℕ) (r : ℕ)
    (answer : Result Decoded Refusal) (after : List ℕ)
    (read : reading ≡ read_sheet s)
    (measured : characters ≡ (write_syndrome reading.code E zeros).buffer)
    (size : length characters ≡ row_room)
    (count : r ≡ min reading.code.r row_room)
    (told : answer ≡ (decode reading.code (take r characters) second).answer)
    (left : after ≡ (decode reading.code (take r characters) second).buffer) where
  part-is : take r characters ≡ take (read_sheet s).code.r (cycle s E zeros second).measured.buffer
  unfolding cycle
  part-is =
      ap (λ (r : ℕ). take r characters) (count ∙ ap (min reading.code.r) (sym size))
      ∙ take_within reading.code.r characters
      ∙ ap (take reading.code.r) measured
      ∙ ap (λ reading. take reading.code.r (write_syndrome reading.code E zeros).buffer) read

  decoded-is : decode reading.code (take r characters) second ≡ (cycle s E zeros second).decoded
  unfolding cycle
  decoded-is = ap₂ (λ reading characters. decode reading.code characters second) read part-is

  answer-is : answer ≡ (cycle s E zeros second).decoded.answer
  answer-is = told ∙ ap (λ after. after.answer) decoded-is

  buffer-is : after ≡ (cycle s E zeros second).decoded.buffer
  buffer-is = left ∙ ap (λ after. after.buffer) decoded-is

  -- The decode call's answer and what it left, together.
  abbrev outcome : After (Result Decoded Refusal)
  outcome = record { answer = answer; buffer = after }

  outcome-is : (cycle s E zeros second).decoded ≡ outcome
  outcome-is = ap₂ (λ answer buffer. record { answer = answer; buffer = buffer }) (sym answer-is) (sym buffer-is)

  pub is-cycle : (answer ≡ (cycle s E zeros second).decoded.answer)
      × ((after ≡ (cycle s E zeros second).decoded.buffer)
      × Guaranteed s E second (record { answer = answer; buffer = after }))
  is-cycle = (answer-is, (buffer-is, subst (Guaranteed s E second) outcome-is (guaranteed s E second)))
