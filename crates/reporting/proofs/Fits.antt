-- The longest report has room: an input has at most 1,024 `s=` lines, of 4 bytes at least, and each has a line of
-- at most 27 bytes; what stands before them, or a refusal in their place, is brief.
use Rattle.std.specs.Prelude.{Option, Some, None}
use mathlib.Core.Bool.{Bool, true, false}
use mathlib.Core.List.{List, [], ◌∷◌, ◌++◌, flat_map}
use mathlib.Core.Path.{◌≡◌, refl, ap}
use Prim.Native.Nat.{ℕ, zero, suc, ◌+◌, ◌*◌, ◌/◌, ◌%◌, ◌≤◌}
use native.Mathlib.Nat.{mul-le-mul}
use native.Mathlib.Omega.{arith}
use lib.Dec.{lit≤, ltb}
use lib.ListN.{length, length-append, length-map}
use Rattle.letters.specs.declared.Letter.{Letter}
use Rattle.letters.specs.Letters.{letter_byte}
use Rattle.letters.specs.Lists.{bytes}
use Rattle.code_record.specs.declared.Code.{Code}
use Rattle.refusals.specs.declared.Refusal.{Refusal}
use Rattle.code_record.specs.Record.{generators, pair_count, logical_count, radius, most_qubits, longest_input, Sized}
use Rattle.refusals.specs.Refusals.{values}
use Rattle.code_record.proofs.Limits.{Limits, limits}
use Rattle.sheet.specs.Reader.{SheetRead, Parsed, got, stop, read_lines}
use Rattle.sheet.specs.Statements.{ReadIsLawful}
use Rattle.sheet.specs.Text.{digits_of, decimal}
use Rattle.sheet.proofs.Lengths.{length-line, length-row_lines, length-generators}
use Rattle.sheet.proofs.Numbers.{IfRefused}
use Rattle.sheet.proofs.Outcome.{Outcome, gets, stops}
use Rattle.sheet.proofs.ReadBack.{reads-are-lawful, read-within}
use Rattle.stabilizer.specs.Canonical.{canonical_generators, canonical_text}
use Rattle.stabilizer.proofs.Theorems.{canonical-generators-are-counted}
use Rattle.decoder.specs.Correction.{correction}
use Rattle.decoder.proofs.Earliest.{correction-is-earliest}
use Rattle.reporting.specs.Report.{longest_report, refusal_text, correction_value, correction_line, code_text}
use Rattle.reporting.specs.Report.{report_of_syndromes, report_of_code, report_of_lines, report_text}
use Rattle.reporting.specs.Statements.{ReportFits, syndromes_text}
use Rattle.reporting.proofs.Brief.{last_line, Brief, brief, code-brief, claim-few}
use Rattle.reporting.proofs.BriefReading.{lines-brief}
use Rattle.reporting.proofs.Syndromes.{HaveRBits, length-syndrome-lines, syndromes-outcome}

-- ---- numbers and refusals

digits-few : (k m : ℕ) → length (digits_of k m) ≤ k
unfolding digits_of
digits-few zero m = lit≤ tt
digits-few (suc k) m = go (ltb m 10) (digits-few k (m / 10))
  where
    go : (small : Bool) → length (digits_of k (m / 10)) ≤ k
        → length {A = ℕ} (elim small [ true ↦ (48 + m) ∷ [] | false ↦ digits_of k (m / 10) ++ (48 + m % 10) ∷ [] ])
        ≤ suc k
    go true fewer = omega arith
    go false fewer = rw length-append (omega arith)

decimal-few : (m : ℕ) → length (decimal m) ≤ m + 1
unfolding decimal
decimal-few m = omega (arith, digits-few (suc m) m)

refusal-fits : (refusal : Refusal) → Brief refusal → length (refusal_text refusal) ≤ longest_report
unfolding refusal_text bytes
refusal-fits refusal h =
    simp (length-append, length-line)
    (omega (
      arith,
      decimal-few (values refusal).number,
      decimal-few (values refusal).line,
      h.number,
      h.line,
      h.errors,
    ))

-- ---- the length of a `c=` line

pub length-correction : (c : Code) (bits : List Bool) (s : List Letter) → correction c bits ≡ Some s
    → length (correction_line c bits) ≡ c.n + 3
unfolding correction_line correction_value bytes
length-correction c bits s e =
    rw (length-line, e) (omega (arith, length-map s letter_byte, ((correction-is-earliest c bits).found s e).0.letters))

pub length-no-correction : (c : Code) (bits : List Bool) → correction c bits ≡ None
    → length (correction_line c bits) ≡ 7
unfolding correction_line correction_value bytes
length-no-correction c bits e = rw (length-line, e)

-- ---- a report that is no refusal

-- At most 23 canonical generators, of 24 letters with a sign, a key and a line feed; and `c=` lines of 24 letters
-- with a key and a line feed.
module _ (c : Code) (sized : Sized c) (within : Limits c) where
  canonical-few : length (canonical_text c) ≤ 644
  unfolding canonical_text bytes
  canonical-few =
      let hs = canonical_generators c.n (generators c) in
      let count = canonical-generators-are-counted.few c.n (generators c) in
      let r = length-generators c sized within in
      let few : (length hs ≤ 23) × (c.n ≤ most_qubits) = omega (arith, within.qubits, within.generator_count) in
      let rows : length hs * (c.n + 4) ≤ 23 * 28 = mul-le-mul {n₂ = 23} {m₂ = 28} few.0 (omega arith) in
      rw (length-row_lines "h=" c.n hs refl) rows

  code-few : length (code_text c) ≤ 720
  unfolding code_text bytes logical_count pair_count radius
  code-few =
      simp (length-append, length-line)
      (omega (
        arith,
        within.qubits,
        within.distance,
        decimal-few c.n,
        decimal-few (logical_count c),
        decimal-few c.d,
        decimal-few (radius c),
        canonical-few,
      ))

  correction-few : (bits : List Bool) → length (correction_line c bits) ≤ 27
  correction-few bits = go (correction c bits) refl
    where
      go : (o : Option (List Letter)) → correction c bits ≡ o → length (correction_line c bits) ≤ 27
      go None e = omega (arith, length-no-correction c bits e)
      go (Some s) e = omega (arith, length-correction c bits s e, within.qubits)

  corrections-few : (syndromes : List (List Bool))
      → length (flat_map (correction_line c) syndromes) ≤ 27 * length syndromes
  unfolding flat_map
  corrections-few [] = lit≤ tt
  corrections-few (bits ∷ more) = rw length-append (omega (arith, correction-few bits, corrections-few more))

  syndromes-fit : (rest : List ℕ) {p : Parsed (List (List Bool))} → length rest ≤ longest_input
      → Outcome (λ syndromes end. HaveRBits c syndromes × (rest ≡ syndromes_text syndromes)) Brief p
      → length (report_of_syndromes c p) ≤ longest_report
  unfolding report_of_syndromes
  syndromes-fit rest few (gets {a = syndromes} h) =
      rw length-append
      (omega (
        arith,
        code-few,
        corrections-few syndromes,
        length-syndrome-lines c syndromes within.generator_count.0 h.0,
        ap length h.1,
      ))
  syndromes-fit rest few (stops {refusal} h) = refusal-fits refusal h

-- ---- every report

code_fits : (q : SheetRead) (rest : List ℕ) → ReadIsLawful q → length rest ≤ longest_input → {fault : Option Refusal}
    → IfRefused Brief fault → length (report_of_code q rest fault) ≤ longest_report
unfolding report_of_code
code_fits q rest lawful few IfRefused.unrefused =
    let within = limits q.code lawful.limits in
    let near = claim-few q.code lawful.sized within in
    syndromes-fit q.code lawful.sized within rest few
    (syndromes-outcome q.code (length rest) (q.claim_at + 1) last_line rest (omega (arith, lawful.claim))
    (λ m last. brief (Refusal.Syndrome m) (lit≤ tt) last refl))
code_fits q rest lawful few (IfRefused.refused {refusal} h) = refusal-fits refusal h

pub report-fits : ReportFits
unfolding report_text report_of_lines
report-fits s = go (read_lines s) refl (lines-brief s)
  where
    go : (p : Parsed SheetRead) → read_lines s ≡ p → Outcome (λ q rest. length s ≤ longest_input) Brief p
        → length (report_of_lines p) ≤ longest_report
    go (got q rest) e (gets few) =
        let lawful = reads-are-lawful s q rest e in
        let within = limits q.code lawful.limits in
        let near = claim-few q.code lawful.sized within in
        code_fits q rest lawful (omega (arith, read-within s q rest e))
        (code-brief q.code lawful.sized within q.claim_at (omega (arith, lawful.claim)))
    go (stop refusal) e (stops h) = refusal-fits refusal h
