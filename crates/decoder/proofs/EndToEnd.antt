-- The third guarantee over the calls, `EndToEnd` of specs/EndToEnd: an error on at most t qubits that is measured and
-- decoded by the calls is corrected, and refusal 14 shows two errors that refute the distance. The syndrome call lays
-- the characters of E's syndrome on the first buffer, whose first r bytes are then these characters; `Guarantee` says
-- what the decode call makes of them. No line and no check but that of the distance refuses with 14. So a sheet that is
-- refused with it is admissible but for distance, and `Guarantee` says what its two errors are.
use Rattle.std.specs.Prelude.{Option, Some, None, Ok, Err}
use Rattle.std.specs.Result.{result_err}
use Rattle.std.proofs.lemmas.Option.{same_Some}
use mathlib.Core.Bool.{Bool, false, true≢false, false≢true}
use mathlib.Core.List.{List, []}
use mathlib.Core.Logic.{◌⊎◌, inl, inr, ⊎_elim}
use mathlib.Core.Path.{◌≡◌, refl, ap, sym, subst, ◌∙◌}
use Prim.Native.Nat.{ℕ, ◌≤◌, ◌<◌}
use native.Mathlib.Decide.{dec_lt}
use native.Mathlib.Omega.{arith}
use lib.Dec.{eqb}
use lib.ListN.{length, take, drop, length-map}
use lib.Seq.{take_at}
use Rattle.letters.specs.Lists.{any_of}
use Rattle.pauli.specs.declared.Pauli.{Pauli}
use Rattle.pauli.specs.Syndrome.{syndrome}
use Rattle.code_record.specs.declared.Code.{Code}
use Rattle.refusals.specs.declared.ErrorPair.{ErrorPair}
use Rattle.refusals.specs.declared.Refusal.{Refusal}
use Rattle.code_record.specs.Record.{generators, generators_at, logicals_at}
use Rattle.refusals.specs.Refusals.{values, ◌then◌}
use Rattle.sheet.specs.Reader.{Parsed, SheetRead, got, stop, nothing_behind, read_form, answered, form_reading}
use Rattle.sheet.specs.Text.{laid, untouched}
use Rattle.sheet.proofs.Numbers.{IfRefused, law-of-refusal, refuse_if-lawful, then-lawful, sheet-refusal-numbers}
use Rattle.sheet.proofs.Reading.{then-got}
use Rattle.stabilizer.proofs.Theorems.{first-lawful, generators-lawful}
use Rattle.admission.specs.Admission.{AdmissibleButForDistance, fault_but_distance, code_fault}
use Rattle.admission.specs.Admission.{admitted, refused_reading, reading_of, checked, read_sheet}
use Rattle.admission.specs.Distance.{claimed_weight_fault, claimed_detected_fault, claimed_in_group_fault}
use Rattle.admission.specs.Distance.{distance_fault}
use Rattle.admission.specs.Logicals.{detected, mispaired, logicals, detected_fault, pairing_fault}
use Rattle.admission.proofs.Admitted.{admitted-as, admitted-lawful, form-has-nothing-behind, read-by-distance}
use Rattle.admission.proofs.RefutingPair.{refusal-is-distance-fault, refuting-pair-is-from-earliest}
use Rattle.decoder.specs.declared.Decoded.{Decoded}
use Rattle.decoder.specs.Correction.{decode}
use Rattle.decoder.specs.EndToEnd.{cycle, Correctable, Corrects, RefutedSheet, EndToEnd}
use Rattle.decoder.specs.Statements.{IsCorrected, Refutes, Refuted}
use Rattle.decoder.specs.Syndrome.{syndrome_text, bit_byte, write_syndrome}
use Rattle.decoder.proofs.Bits.{syndromes-have-r-bits}
use Rattle.decoder.proofs.Decode.{syndrome-laid}
use Rattle.decoder.proofs.Earliest.{correction-is-earliest}
use Rattle.decoder.proofs.Guarantee.{errors-are-corrected, distance-is-decided}

-- ---- errors are corrected

module _ (s : List ℕ) (E : Pauli) (h : Correctable s E) (first : List ℕ) (space : (read_sheet s).code.r ≤ length first)
  where
    abbrev c : Code
    c = (read_sheet s).code

    abbrev bits : List Bool
    bits = syndrome (generators c) E

    -- The characters of E's syndrome.
    abbrev text : List ℕ
    text = syndrome_text bits

    is-corrected : IsCorrected c E
    is-corrected = errors-are-corrected s h.is_admitted E h.on_code h.light

    measured : write_syndrome c E first ≡ record { answer = Ok tt; buffer = laid text first }
    measured =
        let lawful = admitted-lawful s c (admitted-as s h.is_admitted) in
        syndrome-laid c E lawful.limits first space

    text-length : length text ≡ c.r
    unfolding syndrome_text
    text-length = length-map bits bit_byte ∙ syndromes-have-r-bits.of_sheet s E h.is_admitted

    -- The first r bytes of the buffer are the text that was laid on it.
    characters-stand : take c.r (write_syndrome c E first).buffer ≡ text
    unfolding laid
    characters-stand =
        ap (λ after. take c.r after.buffer) measured ∙ take_at text (drop (length text) first) c.r text-length

    module _ (second : List ℕ) where
      decodes : (cycle s E first second).decoded ≡ decode c text second
      unfolding cycle
      decodes = ap (λ characters. decode c characters second) characters-stand

      corrects : c.n ≤ length second → Corrects c E second (cycle s E first second).decoded
      corrects room =
          let decoded = decodes ∙ is-corrected.written second room in
          let candidate = ((correction-is-earliest c bits).found _ is-corrected.found).0 in
          record {
            answered = ap (λ after. after.answer) decoded;
            letters = is-corrected.letters;
            count = candidate.letters;
            written = ap (λ after. after.buffer) decoded;
            found = is-corrected.found;
            light = is-corrected.light;
            in_group = is-corrected.in_group;
          }

      refuses : length second < c.n
          → (cycle s E first second).decoded ≡ untouched (Err Refusal.ShortBuffer) second
      refuses room = decodes ∙ is-corrected.short second room

      never-none : (cycle s E first second).decoded.answer ≡ Ok Decoded.None → ⊥
      unfolding untouched
      never-none e = elim (dec_lt (length second) c.n) [
        | yes room ↦ let refused = ap (λ after. after.answer) (refuses room) in
            let never : ◌≡◌ {A = ℕ} 0 1 = cc in omega arith
        | no room ↦ let corrected = (corrects (omega arith)).answered in
            let never : ◌≡◌ {A = ℕ} 0 1 = cc in omega arith
      ]

-- ---- 14 is the number of the distance alone

abbrev Other : Refusal → Type 0
Other refusal = eqb (values refusal).number 14 ≡ false

other-checks : (at : ℕ) (c : Code) → IfRefused Other (fault_but_distance at c)
unfolding fault_but_distance detected_fault pairing_fault detected mispaired claimed_weight_fault claimed_detected_fault
    claimed_in_group_fault
other-checks at c =
    then-lawful (generators-lawful (generators_at c) (generators c) (λ _ _. refl) (λ _ _. refl) (λ _ _. refl))
    (then-lawful (first-lawful (detected c) (λ before line P. refuse_if-lawful _ _ refl) [] (logicals_at c)
    (logicals c))
    (then-lawful (first-lawful (mispaired c) (λ before line P. refuse_if-lawful _ _ refl) [] (logicals_at c)
    (logicals c))
    (then-lawful (refuse_if-lawful _ _ refl) (then-lawful (refuse_if-lawful _ _ refl) (refuse_if-lawful _ _ refl)))))

-- ---- the distance is decided

refused-by : (c : Code) (fault : Option Refusal) (refusal : Refusal)
    → (reading_of c fault).answer ≡ Err refusal → fault ≡ Some refusal
unfolding reading_of admitted refused_reading
refused-by c None refusal h = cc
refused-by c (Some other) refusal h = cc

passed-or-first : (first next : Option Refusal) (refusal : Refusal) → (first then next) ≡ Some refusal
    → (first ≡ None) ⊎ (first ≡ Some refusal)
unfolding ◌then◌
passed-or-first None next refusal h = inl refl
passed-or-first (Some other) next refusal h = inr h

module _ (s : List ℕ) (at : ℕ) (pair : ErrorPair) where
  abbrev fourteen : Refusal
  fourteen = Refusal.DistanceRefuted at pair

  admissible-is-shown : (q : SheetRead) → AdmissibleButForDistance s q
      → (read_sheet s).answer ≡ Err fourteen → RefutedSheet s at pair
  admissible-is-shown q admissible h =
      let shows = distance-is-decided.shown s q fourteen admissible (ap result_err h, refl) in
      let same = same_Some pair shows.pair shows.carried in
      record {
        read = q;
        admissible = admissible;
        at_claim = shows.at_claim;
        qubits = ap (λ p. p.n) same ∙ shows.qubits;
        refutes = subst (λ p. Refutes q.code p.e p.f) (sym same) shows.refutes;
      }

  checks-pass : (line : ℕ) (c : Code) → code_fault line c ≡ Some fourteen → fault_but_distance line c ≡ None
  unfolding code_fault
  checks-pass line c h =
      ⊎_elim (λ passed. passed) (λ first. absurd (true≢false (law-of-refusal (other-checks line c) fourteen first)))
      (passed-or-first (fault_but_distance line c) (distance_fault line c) fourteen h)

  lines-pass : read_form s ≡ stop fourteen → ⊥
  unfolding form_reading answered any_of
  lines-pass form =
      false≢true (sheet-refusal-numbers.alone s fourteen (ap (λ p. result_err (answered s p).answer) form))

  refusal-is-shown : (read_sheet s).answer ≡ Err fourteen → RefutedSheet s at pair
  unfolding read_sheet checked refused_reading read_form nothing_behind
  refusal-is-shown h = go (read_form s) refl
    where
      go : (p : Parsed SheetRead) → read_form s ≡ p → RefutedSheet s at pair
      go (stop refusal) form =
          let refused = ap (λ p. (checked p).answer) (sym form) ∙ h in
          let same : refusal ≡ fourteen = cc in
          absurd (lines-pass (form ∙ ap stop same))
      go (got q rest) form =
          let refused = ap (λ p. (checked p).answer) (sym form) ∙ h in
          admissible-is-shown q
          (record {
            form = then-got nothing_behind (form-has-nothing-behind s q rest form);
            checks = checks-pass q.claim_at q.code (refused-by q.code _ fourteen refused);
          })
          h

refuted-is-refused : (s : List ℕ) (q : SheetRead) → AdmissibleButForDistance s q → Refuted q.code
    → (pair : ErrorPair) × (read_sheet s ≡ refused_reading (Refusal.DistanceRefuted q.claim_at pair))
unfolding reading_of
refuted-is-refused s q admissible refuted =
    let (refusal, told) = (distance-is-decided.exactly s q admissible).1 refuted in
    let fault = refusal-is-distance-fault s q admissible refusal told.0 in
    let shows = refuting-pair-is-from-earliest.of_record _ q.code refusal fault in
    (shows.pair, read-by-distance s q admissible ∙ ap (reading_of q.code) (fault ∙ ap Some shows.told))

is-measured : (s : List ℕ) (E : Pauli) (first second : List ℕ) (h : Correctable s E)
    (space : (read_sheet s).code.r ≤ length first)
    → (cycle s E first second).measured
    ≡ record { answer = Ok tt; buffer = laid (text s E h first space) first }
unfolding cycle
is-measured s E first second h space = measured s E h first space

pub end_to_end : EndToEnd
end_to_end = record {
  measured = is-measured;
  decoded = λ s E first second space. record {
    corrected = λ h. corrects s E h first space second;
    short = λ h. refuses s E h first space second;
    never = λ h. never-none s E h first space second;
  };
  shown = refusal-is-shown;
  refused = refuted-is-refused;
  otherwise = distance-is-decided.otherwise;
}
