-- The report by what its parts answered: each part's text is the report's, and the part refuses with 17 alone.
use Rattle.std.specs.Prelude.{Option, Some, None, Result, Ok, Err}
use mathlib.Core.Bool.{Bool}
use mathlib.Core.List.{List, [], ◌++◌}
use mathlib.Core.Path.{◌≡◌, refl, ap, ap₂, sym, subst, ◌∙◌}
use Prim.Native.Nat.{ℕ, ◌+◌, ◌^◌, ◌≤◌, ◌<◌}
use native.Mathlib.Omega.{arith}
use lib.ListN.{length}
use Rattle.code_record.specs.declared.Code.{Code}
use Rattle.code_record.specs.declared.LinesReading.{LinesReading}
use Rattle.code_record.specs.Record.{most_qubits, row_room, generators, limits_fault}
use Rattle.code_record.proofs.Limits.{limits, within-later}
use Rattle.refusals.specs.declared.ErrorPair.{ErrorPair}
use Rattle.refusals.specs.declared.Refusal.{Refusal}
use Rattle.refusals.specs.Refusals.{values, ◌then◌}
use Rattle.sheet.specs.Reader.{SheetRead, Parsed, got, stop, read_lines, answered, lines_reading, behind}
use Rattle.sheet.specs.Text.{After, written}
use Rattle.sheet.proofs.Numbers.{law-of-refusal}
use Rattle.sheet.specs.Statements.{ReadIsLawful}
use Rattle.sheet.proofs.Outcome.{what_was-got}
use Rattle.sheet.proofs.ReadBack.{reads-are-lawful, read-within, rest-is-behind}
use Rattle.row_writer.proofs.Lines.{qubits-within}
use Rattle.stabilizer.specs.Canonical.{canonical_generators}
use Rattle.stabilizer.specs.Checks.{group_fault}
use Rattle.reduced_rows.specs.declared.ReducedRows.{ReducedRows}
use Rattle.reduced_rows.specs.Rows.{reduced_of}
use Rattle.admission.specs.Admission.{code_fault}
use Rattle.decoder.proofs.SyndromeLaws.{generators-pass}
use Rattle.reporting.specs.Report.{refusal_text, code_text, report_of_syndromes, report_of_code, report_of_lines}
use Rattle.reporting.specs.Report.{report_text, write_report}
use Rattle.reporting.specs.Statements.{GuaranteedReport}
use Rattle.reporting.proofs.Brief.{Brief, code-brief, claim-few}
use Rattle.reporting.proofs.BriefReading.{lines-brief, stopped-brief}
use Rattle.reporting.proofs.Guarantee.{guarantee-in-reports}
use Rattle.reporting.proofs.Report.{report-by-fault}
use Rattle.reporting.proofs.Steps.{lines_from}
use Rattle.refusal_writer.specs.RefusalLines.{errors_fault, pair_fault, write_refusal}
use Rattle.refusal_writer.proofs.RefusalCall.{refusal-is-written}
use Rattle.syndrome_lines.specs.declared.OffForm.{OffForm}
use Rattle.syndrome_lines.specs.SyndromeLines.{check_lines, lines_fault}
use Rattle.syndrome_lines.proofs.InReports.{syndrome-lines-are-read}
use Rattle.correction_lines.proofs.InReports.{correction-lines-are-reported}
use Rattle.account_writer.specs.Account.{account_text, write_account}
use Rattle.account_writer.proofs.Account.{account-is-of-record}
use Rattle.report_writer.specs.Reports.{write_by_fault, write_checked}

-- ---- a refusal

-- The two errors of a brief refusal are on a code's qubits, so that the call for its lines refuses with 17 alone.
brief-written : (refusal : Refusal) → Brief refusal → (buffer : List ℕ)
    → write_refusal refusal buffer ≡ written None (refusal_text refusal) buffer
unfolding pair_fault errors_fault
brief-written refusal brief buffer =
    refusal-is-written refusal buffer (by-errors (values refusal).errors brief.qubits)
  where
    by-errors : (errors : Option ErrorPair)
        → ((pair : ErrorPair) → errors ≡ Some pair → (2 ≤ pair.n) × (pair.n ≤ most_qubits))
        → errors_fault errors ≡ None
    by-errors None on = refl
    by-errors (Some pair) on = let q = on pair refl in qubits-within pair.n q.0 q.1

-- ---- the lines were refused

module _ (input : List ℕ) (reading : LinesReading) where
  stopped-at : (p : Parsed SheetRead) (refusal : Refusal) → reading ≡ answered input p
      → reading.answer ≡ Err refusal → p ≡ stop refusal
  unfolding answered
  stopped-at (got q rest) refusal e told = absurd (let z : ◌≡◌ {A = ℕ} 0 1 = cc (ap (λ x. x.answer) e) in omega arith)
  stopped-at (stop other) refusal e told = ap stop (cc (ap (λ x. x.answer) e))

  -- What was read of a sheet, and the record of the reading.
  pub record LinesGot : Type 0 where
    pub read : SheetRead
    pub rest : List ℕ
    pub lines : read_lines input ≡ got read rest
    pub code : reading.code ≡ read.code
    pub claim : reading.claim_at ≡ read.claim_at
    pub left : behind input reading.answer ≡ rest

  got-by : (p : Parsed SheetRead) (used : ℕ) → read_lines input ≡ p → reading ≡ answered input p
      → reading.answer ≡ Ok used → behind input reading.answer ≡ behind input (lines_reading input).answer
      → LinesGot
  unfolding answered
  got-by (got q rest) used lines e told same = record {
    read = q;
    rest = rest;
    lines = lines;
    code = ap (λ x. x.code) e;
    claim = ap (λ x. x.claim_at) e;
    left = same ∙ rest-is-behind input q rest lines;
  }
  got-by (stop other) used lines e told same =
      absurd (let z : ◌≡◌ {A = ℕ} 0 1 = cc (ap (λ x. x.answer) e) in omega arith)

  module _ (known : reading ≡ lines_reading input) where
    pub lines-stopped : (refusal : Refusal) → reading.answer ≡ Err refusal → read_lines input ≡ stop refusal
    unfolding lines_reading
    lines-stopped refusal told = stopped-at (read_lines input) refusal known told

    pub lines-got : (used : ℕ) → reading.answer ≡ Ok used → LinesGot
    unfolding lines_reading
    lines-got used told =
        got-by (read_lines input) used refl known told (ap (λ x. behind input x.answer) known)

-- ---- the report

module _ (input buffer : List ℕ) where
  -- A call that writes the report's text is the report's call.
  as-report : {text : List ℕ} → report_text input ≡ text → written None text buffer ≡ write_report input buffer
  unfolding write_report
  as-report e = ap (λ (t : List ℕ). written None t buffer) (sym e)

  pub stopped-report : (refusal : Refusal) → read_lines input ≡ stop refusal
      → write_refusal refusal buffer ≡ write_report input buffer
  unfolding report_text report_of_lines
  stopped-report refusal lines =
      brief-written refusal (stopped-brief input refusal lines) buffer ∙ as-report (ap report_of_lines lines)

  module _ (reading : LinesReading) (g : LinesGot input reading) where
    abbrev own : Code
    own = g.read.code

    abbrev at : ℕ
    at = g.read.claim_at

    lawful : ReadIsLawful g.read
    lawful = reads-are-lawful input g.read g.rest g.lines

    -- What the checks answered of the record that was read.
    pub code-fault : (fault : Option Refusal)
        → fault ≡ (limits_fault reading.code then code_fault reading.claim_at reading.code)
        → code_fault at own ≡ fault
    code-fault fault told =
        within-later own (code_fault at own) lawful.limits
        ∙ ap₂ (λ (c : Code) (m : ℕ). limits_fault c then code_fault m c) (sym g.code) (sym g.claim) ∙ sym told

    pub faulty-report : (refusal : Refusal) → code_fault at own ≡ Some refusal
        → write_refusal refusal buffer ≡ write_report input buffer
    unfolding report_of_code
    faulty-report refusal fault =
        let within = limits own lawful.limits in
        let near = claim-few own lawful.sized within in
        brief-written refusal
        (law-of-refusal (code-brief own lawful.sized within at (omega (arith, lawful.claim))) refusal fault) buffer
        ∙ as-report (report-by-fault input g.read g.rest g.lines (Some refusal) fault)

    module _ (faultless : code_fault at own ≡ None) where
      report-by-lines : (p : Parsed (List (List Bool))) → lines_from own (at + 1) g.rest ≡ p
          → report_text input ≡ report_of_syndromes own p
      unfolding report_of_code
      report-by-lines p e =
          report-by-fault input g.read g.rest g.lines None faultless ∙ ap (report_of_syndromes own) e

      group-passes : group_fault own ≡ None
      unfolding group_fault
      group-passes = sym (within-later own _ lawful.limits) ∙ generators-pass at own faultless

      few-rows : own.r ≤ row_room
      few-rows = omega (arith, (limits own lawful.limits).generator_count, (limits own lawful.limits).qubits)

      -- The rows that the checks gave are the record's canonical generators.
      module _
          (hs : ReducedRows) (found : hs ≡ reduced_of own.n (canonical_generators own.n (generators own))) where
        account-is : (syndromes : List (List Bool)) → lines_from own (at + 1) g.rest ≡ got syndromes []
            → write_account own hs g.rest buffer ≡ write_report input buffer
        unfolding account_text report_of_syndromes
        account-is syndromes lines =
            ap (λ (rows : ReducedRows). write_account own rows g.rest buffer) found
            ∙ account-is-of-record own group-passes g.rest buffer
            ∙ ap (λ (corrections : List ℕ). written None (code_text own ++ corrections) buffer)
            (correction-lines-are-reported own (at + 1) g.rest syndromes lawful.sized lawful.limits lines)
            ∙ as-report (report-by-lines (got syndromes []) lines)

        by_lines : (checked : Result Unit OffForm) → check_lines own.r g.rest ≡ checked
            → write_by_fault own hs g.rest buffer (lines_fault (at + 1) checked) ≡ write_report input buffer
        unfolding write_by_fault lines_fault report_of_syndromes pair_fault errors_fault
        by_lines (Ok _) e =
            let told = syndrome-lines-are-read.read own (at + 1) g.rest (ap (lines_fault (at + 1)) e) in
            account-is told.0 told.1
        by_lines (Err off) e =
            refusal-is-written (Refusal.Syndrome (at + 1 + off.before)) buffer refl
            ∙ as-report
            (report-by-lines _
            (syndrome-lines-are-read.off_form own (at + 1) g.rest _ few-rows (ap (lines_fault (at + 1)) e)))

      pub checked-report : (hs : ReducedRows)
          → hs ≡ reduced_of reading.code.n (canonical_generators reading.code.n (generators reading.code))
          → write_checked reading.code hs reading.claim_at (behind input reading.answer) buffer
          ≡ write_report input buffer
      unfolding write_checked
      checked-report hs found =
          ap₂ (λ (c : Code) (m : ℕ). write_checked c hs m (behind input reading.answer) buffer) g.code g.claim
          ∙ ap (λ (s : List ℕ). write_checked own hs at s buffer) g.left
          ∙ by_lines hs
          (found ∙ ap (λ (c : Code). reduced_of c.n (canonical_generators c.n (generators c))) g.code)
          (check_lines own.r g.rest) refl

    -- The numbers of the lines behind w are small.
    pub few-lines : reading.claim_at + length (behind input reading.answer) + 1 < 2 ^ 64
    few-lines =
        let near = claim-few own lawful.sized (limits own lawful.limits) in
        omega (
          arith,
          g.claim,
          lawful.claim,
          ap length g.left,
          read-within input g.read g.rest g.lines,
          what_was-got (lines-brief input) g.lines,
        )

-- ---- what the call ends with

module _ (input buffer : List ℕ) where
  -- What it answers and leaves is the report's, and so the third guarantee holds of it.
  pub ends_with : {part : After (Result ℕ Refusal)} → part ≡ write_report input buffer
      → {answer : Result ℕ Refusal} {after : List ℕ}
      → answer ≡ part.answer → after ≡ part.buffer
      → (answer ≡ (write_report input buffer).answer) × ((after ≡ (write_report input buffer).buffer)
      × GuaranteedReport input buffer (record { answer = answer; buffer = after }))
  ends_with e {answer} {after} told left =
      let first = told ∙ ap (λ (x : After (Result ℕ Refusal)). x.answer) e in
      let second = left ∙ ap (λ (x : After (Result ℕ Refusal)). x.buffer) e in (
        first,
        (
          second,
          subst (GuaranteedReport input buffer)
              (sym (ap₂ (λ (a : Result ℕ Refusal) (b : List ℕ). record { answer = a; buffer = b }) first second))
              (guarantee-in-reports input buffer),
        ),
      )
