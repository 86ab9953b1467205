-- The third guarantee as a report shows it. The `c=` lines of errors have the letters of their corrections, since a
-- report answers each syndrome as the decoder does; and a refuted distance has the four lines of the refusal, whose two
-- errors are known from the decoder's guarantee to refute it and from admission to be from the earliest logical error.
use Rattle.std.specs.Prelude.{Some, Result, Ok}
use Rattle.std.proofs.lemmas.Option.{same_Some}
use mathlib.Core.Bool.{Bool}
use mathlib.Core.List.{List, ◌++◌, map, append_assoc}
use mathlib.Core.Path.{◌≡◌, refl, ap, sym, subst, ◌∙◌}
use Prim.Native.Nat.{ℕ, ◌≤◌}
use lib.ListN.{length}
use Rattle.letters.specs.Lists.{bytes}
use Rattle.pauli.specs.Syndrome.{syndrome}
use Rattle.code_record.specs.declared.Code.{Code}
use Rattle.refusals.specs.declared.ErrorPair.{ErrorPair}
use Rattle.refusals.specs.declared.Refusal.{Refusal}
use Rattle.code_record.specs.Record.{generators, longest_input}
use Rattle.refusals.specs.Refusals.{values, ◌then◌}
use Rattle.sheet.specs.Reader.{SheetRead}
use Rattle.sheet.specs.Text.{line_feed, line, digits_of, decimal, After}
use Rattle.stabilizer.proofs.All.{all-every, all-mapped}
use Rattle.admission.specs.Admission.{AdmissibleButForDistance, code_fault, read_sheet}
use Rattle.admission.specs.Distance.{distance_fault}
use Rattle.admission.specs.Statements.{ShowsEarliest}
use Rattle.admission.proofs.Admitted.{admitted-as}
use Rattle.admission.proofs.RefutingPair.{refusal-is-distance-fault, refuting-pair-is-from-earliest}
use Rattle.decoder.specs.Statements.{IsCorrected, Refutes, RefusedForDistance, Shows}
use Rattle.decoder.proofs.Bits.{syndromes-have-r-bits}
use Rattle.decoder.proofs.Guarantee.{errors-are-corrected, distance-is-decided}
use Rattle.reporting.specs.Report.{errors_text, refusal_text, correction_line, code_text, report_text, write_report}
use Rattle.reporting.specs.Statements.{syndrome_line_text, Struck, error_lines, corrected_lines, refutation_text}
use Rattle.reporting.specs.Statements.{CorrectsInReport, AnswersInReport, RefutesInReport}
use Rattle.reporting.specs.Statements.{GuaranteeInReports}
use Rattle.reporting.proofs.Call.{is-reported}
use Rattle.reporting.proofs.Lists.{lines-of-mapped, same_lines}
use Rattle.reporting.proofs.Report.{corrections-are-reported, refusals-are-reported}
use Rattle.reporting.proofs.Report.{syndromes-are-reported, lines-before, report-answered}

-- ---- corrections

module _ (s : List ℕ) (h : (read_sheet s).answer ≡ Ok tt) where
  abbrev own : Code
  own = (read_sheet s).code

  struck-corrected : (E : Struck own) → IsCorrected own E.error
  struck-corrected E = errors-are-corrected s h E.error E.on_code E.light

  abbrev bits : Struck own → List Bool
  bits E = syndrome (generators own) E.error

  corrections-reported : (errors : List (Struck own)) → length (s ++ error_lines own errors) ≤ longest_input
      → report_text (s ++ error_lines own errors) ≡ code_text own ++ corrected_lines own struck-corrected errors
  corrections-reported errors few =
      let a = admitted-as s h in
      let behind = error_lines own errors in
      let counts = (all-mapped _ bits errors).1
      (all-every _ (λ (E : Struck own). syndromes-have-r-bits.of_sheet s E.error h) errors) in
      report-answered (s ++ behind) _ behind (lines-before s behind _ a.lines few) a.faultless (map bits errors)
      counts (sym (lines-of-mapped syndrome_line_text bits errors))
      ∙ ap (λ (t : List ℕ). code_text own ++ t)
      (lines-of-mapped (correction_line own) bits errors
      ∙ same_lines _ _ (λ (E : Struck own). corrections-are-reported own E.error (struck-corrected E)) errors)

-- ---- a refuted distance

fourteen : line "r=" (decimal 14) ≡ bytes "r=14\n"
unfolding line decimal digits_of bytes line_feed
fourteen = refl

refutation-text : (q : SheetRead) (pair : ErrorPair) → pair.n ≡ q.code.n
    → refusal_text (Refusal.DistanceRefuted q.claim_at pair) ≡ refutation_text q pair
unfolding refusal_text errors_text
refutation-text q pair qubits = rw (fourteen, qubits) (simp append_assoc)

module _
    (s rest : List ℕ) (q : SheetRead) (refusal : Refusal) (lawful : AdmissibleButForDistance s q)
    (refused : RefusedForDistance s refusal) (few : length (s ++ rest) ≤ longest_input) where
  fault : distance_fault q.claim_at q.code ≡ Some refusal
  fault = refusal-is-distance-fault s q lawful refusal refused.0

  code-fault : code_fault q.claim_at q.code ≡ Some refusal
  unfolding code_fault ◌then◌
  code-fault = ap (λ o. o then distance_fault q.claim_at q.code) lawful.checks ∙ fault

  earliest : ShowsEarliest q.claim_at q.code refusal
  earliest = refuting-pair-is-from-earliest.of_record q.claim_at q.code refusal fault

  shows : Shows q refusal
  shows = distance-is-decided.shown s q refusal lawful refused

  -- Both speak of the pair that the refusal carries.
  same-pair : shows.pair ≡ earliest.pair
  same-pair =
      same_Some shows.pair earliest.pair
      (sym shows.carried ∙ ap (λ r. (values r).errors) earliest.told)

  refuted-reported : (buffer : List ℕ) → RefutesInReport q buffer (write_report (s ++ rest) buffer)
  refuted-reported buffer =
      let pair = earliest.pair in
      let qubits : pair.n ≡ q.code.n = ap (λ (p : ErrorPair). p.n) (sym same-pair) ∙ shows.qubits in
      record {
        pair = pair;
        refutes = subst (λ (p : ErrorPair). Refutes q.code p.e p.f) same-pair shows.refutes;
        from = earliest.from;
        writes = is-reported (s ++ rest) (refutation_text q pair)
            (refusals-are-reported s rest q refusal lawful.form code-fault few
            ∙ ap refusal_text earliest.told ∙ refutation-text q pair qubits) buffer;
      }

-- ---- of every input

-- What holds of this input holds of one that is equal to it.
module _ (input whole buffer : List ℕ) (e : input ≡ whole) where
  abbrev left : After (Result ℕ Refusal)
  left = write_report whole buffer

  as-input : (P : After (Result ℕ Refusal) → Type 0) → P left → P (write_report input buffer)
  as-input P = subst (λ (t : List ℕ). P (write_report t buffer)) (sym e)

pub guarantee-in-reports : GuaranteeInReports
guarantee-in-reports input buffer = record {
  corrected = λ s h errors e few. as-input input _ buffer e (CorrectsInReport (read_sheet s).code errors buffer)
      (record {
        corrected = struck-corrected s h;
        writes = is-reported _ _ (corrections-reported s h errors (short e few)) buffer;
      });
  answered = λ s h syndromes counts e few.
      as-input input _ buffer e (AnswersInReport (read_sheet s).code syndromes buffer)
      (record {
        corrected = struck-corrected s h;
        shown = λ E. corrections-are-reported (read_sheet s).code E.error (struck-corrected s h E);
        writes = is-reported _ _ (syndromes-are-reported s syndromes h counts (short e few)) buffer;
      });
  refuted = λ s rest q lawful refuted e few.
      let refused = (distance-is-decided.exactly s q lawful).1 refuted in
      as-input input _ buffer e (RefutesInReport q buffer)
      (refuted-reported s rest q refused.0 lawful refused.1 (short e few) buffer);
  otherwise = distance-is-decided.otherwise;
}
  where
    short : {whole : List ℕ} → input ≡ whole → length input ≤ longest_input → length whole ≤ longest_input
    short e few = subst (λ (t : List ℕ). length t ≤ longest_input) e few
