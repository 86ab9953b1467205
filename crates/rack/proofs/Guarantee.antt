-- The third guarantee of the calls for programs in C, from that of the calls which they make: a number tells the
-- answer.
use Rattle.std.specs.Prelude.{Some, Result, Ok, Err}
use Rattle.std.proofs.lemmas.Option.{same_Some}
use mathlib.Core.List.{List}
use mathlib.Core.Path.{◌≡◌, refl, ap, sym, subst, ◌∙◌}
use Prim.Native.Nat.{ℕ}
use native.Mathlib.Omega.{arith}
use Rattle.pauli.specs.declared.Pauli.{Pauli}
use Rattle.pauli.specs.Letters.{of_letters}
use Rattle.pauli.specs.Syndrome.{syndrome}
use Rattle.code_record.specs.Record.{generators}
use Rattle.refusals.specs.declared.ErrorPair.{ErrorPair}
use Rattle.refusals.specs.declared.Refusal.{Refusal}
use Rattle.refusals.specs.declared.Refusal.TheVariants.{TooLong, Form, QubitCount, DistanceRange, GeneratorCount}
use Rattle.refusals.specs.declared.Refusal.TheVariants.{GeneratorsAnticommute, MinusIdentity, DependentGenerator}
use Rattle.refusals.specs.declared.Refusal.TheVariants.{LogicalAnticommutes, LogicalPairing, ClaimedWeight}
use Rattle.refusals.specs.declared.Refusal.TheVariants.{ClaimedAnticommutes, ClaimedInGroup, DistanceRefuted}
use Rattle.refusals.specs.declared.Refusal.TheVariants.{RecordLimits, Syndrome, ShortBuffer}
use Rattle.sheet.specs.Text.{untouched}
use Rattle.admission.specs.declared.Reading.{Reading}
use Rattle.admission.specs.Admission.{admitted, refused_reading, read_sheet}
use Rattle.admission.proofs.Admitted.{admitted-as, admitted-lawful}
use Rattle.decoder.specs.EndToEnd.{Correctable}
use Rattle.decoder.specs.Statements.{Refutes}
use Rattle.decoder.proofs.Decode.{syndrome-laid}
use Rattle.decoder.proofs.Earliest.{correction-is-earliest}
use Rattle.decoder.proofs.EndToEnd.{end_to_end}
use Rattle.decoder.proofs.Guarantee.{errors-are-corrected}
use Rattle.mask_decoding.proofs.Corrected.{corrected-by-value}
use Rattle.reporting.specs.Report.{write_report}
use Rattle.reporting.proofs.Guarantee.{guarantee-in-reports}
use Rattle.rack_answers.specs.Answers.{done, refused_answer, syndrome_answer, decoded_answer, correction_answer}
use Rattle.rack_answers.specs.Answers.{admission_answer, admission_errors, errors_in, sheet_answer}
use Rattle.rack_answers.proofs.Numbers.{numbers-tell}
use Rattle.rack.specs.Calls.{in_numbers, read_call, syndrome_call, decode_call, correct_call, report_call}
use Rattle.rack.specs.Statements.{Struck, CorrectsInC, RefutedInC, GuaranteeInC}

-- ---- errors are corrected

correctable : (s : List ℕ) (E : Pauli) → Struck s E → Correctable s E
unfolding read_call
correctable s E h = record {
  is_admitted = numbers-tell.admitted (read_sheet s) h.is_done;
  on_code = h.on_code;
  light = h.light;
}

corrected : (s : List ℕ) (E : Pauli) → Struck s E → CorrectsInC (read_call s).code E
unfolding read_call syndrome_call decode_call correct_call in_numbers untouched
corrected s E struck =
    let h = correctable s E struck in
    let c = (read_sheet s).code in
    let is = errors-are-corrected s h.is_admitted E h.on_code h.light in
    let lawful = admitted-lawful s c (admitted-as s h.is_admitted) in
    let by = corrected-by-value s E h in
    let same : by.letters ≡ is.letters = same_Some _ _ (sym by.found ∙ is.found) in
    record {
      letters = is.letters;
      count = ((correction-is-earliest c (syndrome (generators c) E)).found _ is.found).0.letters;
      found = is.found;
      light = is.light;
      in_group = is.in_group;
      measured = λ buffer room. ap (in_numbers (syndrome_answer c.r)) (syndrome-laid c E lawful.limits buffer room);
      decoded = λ buffer room. ap (in_numbers (decoded_answer c.n)) (is.written buffer room);
      short = λ buffer room. ap (in_numbers (decoded_answer c.n)) (is.short buffer room);
      by_value = ap correction_answer (by.answered ∙ ap (λ s. Ok (Some (of_letters s))) same);
    }

-- ---- the distance is decided

-- Number 14 is that of one refusal.
told_14 : (answer : Result Unit Refusal) → (admission_answer answer).number ≡ 14
    → (at : ℕ) × (pair : ErrorPair) × (answer ≡ Err (DistanceRefuted at pair))
told_14 (Ok tt) e = absurd (omega arith)
told_14 (Err TooLong) e = absurd (omega arith)
told_14 (Err (Form at)) e = absurd (omega arith)
told_14 (Err (QubitCount at)) e = absurd (omega arith)
told_14 (Err (DistanceRange at)) e = absurd (omega arith)
told_14 (Err (GeneratorCount at)) e = absurd (omega arith)
told_14 (Err (GeneratorsAnticommute at family)) e = absurd (omega arith)
told_14 (Err (MinusIdentity at family)) e = absurd (omega arith)
told_14 (Err (DependentGenerator at family)) e = absurd (omega arith)
told_14 (Err (LogicalAnticommutes at family)) e = absurd (omega arith)
told_14 (Err (LogicalPairing at family)) e = absurd (omega arith)
told_14 (Err (ClaimedWeight at)) e = absurd (omega arith)
told_14 (Err (ClaimedAnticommutes at)) e = absurd (omega arith)
told_14 (Err (ClaimedInGroup at)) e = absurd (omega arith)
told_14 (Err (DistanceRefuted at pair)) e = (at, pair, refl)
told_14 (Err RecordLimits) e = absurd (omega arith)
told_14 (Err (Syndrome at)) e = absurd (omega arith)
told_14 (Err ShortBuffer) e = absurd (omega arith)

shown : (s : List ℕ) → (read_call s).answer.number ≡ 14 → RefutedInC s
unfolding read_call
shown s e =
    let told = told_14 (read_sheet s).answer e in
    let at = told.0 in
    let pair = told.1 in
    let refuted = end_to_end.shown s at pair told.2 in
    record {
      read = refuted.read;
      admissible = refuted.admissible;
      at_claim = ap (λ a. (admission_answer a).line) told.2 ∙ refuted.at_claim;
      qubits = ap (λ a. (errors_in (admission_errors a)).n) told.2 ∙ refuted.qubits;
      refutes = subst (λ (pair : ErrorPair). Refutes refuted.read.code pair.e pair.f)
          (sym (ap (λ a. errors_in (admission_errors a)) told.2)) refuted.refutes;
    }

pub guarantee-in-c : GuaranteeInC
unfolding read_call report_call refused_reading admitted
guarantee-in-c = record {
  corrected = corrected;
  reported = λ input buffer. record {
    after = write_report input buffer;
    guaranteed = guarantee-in-reports input buffer;
    told = refl;
  };
  shown = shown;
  refused = λ s q h refuted. rw (end_to_end.refused s q h refuted).1 refl;
  otherwise = λ s q h not. rw (end_to_end.otherwise s q h not) (refl, refl);
}
