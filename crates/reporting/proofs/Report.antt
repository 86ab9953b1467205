-- The report of a sheet that was read, with what stands behind it: the refusal of its checks; or the account of the
-- code and its corrections; or 16 at the first line that is no syndrome's. Each is one clause of the definition,
-- and the lines behind w go by the steps of Steps.
use Rattle.std.specs.Prelude.{Option, None}
use mathlib.Core.Bool.{Bool}
use mathlib.Core.List.{List, [], ◌++◌, flat_map, append-nil}
use mathlib.Core.Path.{◌≡◌, refl, ap, ap₂, sym, ◌∙◌}
use Prim.Native.Nat.{ℕ, ◌+◌, ◌≤◌, ◌<◌}
use lib.ListN.{length}
use Rattle.letters.specs.Lists.{any_of}
use Rattle.letters.specs.declared.Letter.{Letter}
use Rattle.code_record.specs.declared.Code.{Code}
use Rattle.refusals.specs.declared.Refusal.{Refusal}
use Rattle.code_record.specs.Record.{longest_input}
use Rattle.sheet.specs.Reader.{SheetRead, got, read_lines}
use Rattle.sheet.specs.Statements.{ReadIsLawful}
use Rattle.sheet.specs.Text.{line}
use Rattle.sheet.specs.Writer.{sheet_text}
use Rattle.sheet.proofs.Numbers.{IfRefused, law-of-refusal, written-lawful}
use Rattle.sheet.proofs.ReadBack.{reads-are-lawful, write-after-read}
use Rattle.sheet.proofs.Untouched.{written-leaves}
use Rattle.sheet.proofs.WrittenRead.{read-after-write}
use Rattle.admission.specs.Admission.{code_fault}
use Rattle.admission.proofs.Admitted.{form-has-nothing-behind, admitted-as, admitted-faultless}
use Rattle.reporting.specs.Report.{refusal_text, correction_value, correction_line, code_text, write_report}
use Rattle.reporting.specs.Report.{report_of_syndromes, report_of_code, report_of_lines, report_text}
use Rattle.reporting.specs.Statements.{ReportRefusalsLeave, ReportRefusalNumbers, CorrectionsAreReported}
use Rattle.reporting.specs.Statements.{syndromes_text, NoSyndrome, RefusalsAreReported, SyndromesAreReported}
use Rattle.reporting.specs.Statements.{BadLinesAreReported}
use Rattle.reporting.proofs.Lists.{all-members}
use Rattle.reporting.proofs.Steps.{before, lines_from, lines_then, lines-return, bad-line}
use Rattle.reporting.proofs.Syndromes.{HaveRBits}

-- ---- the call

pub report-refusals-leave : ReportRefusalsLeave
unfolding write_report
report-refusals-leave s buffer = written-leaves _ _ buffer

pub report-refusal-numbers : ReportRefusalNumbers
unfolding write_report any_of
report-refusal-numbers s buffer =
    law-of-refusal (written-lawful (report_text s) buffer IfRefused.unrefused refl)

pub corrections-are-reported : CorrectionsAreReported
unfolding correction_line correction_value
corrections-are-reported c E corrected =
    ap (λ (found : Option (List Letter)). line "c=" (correction_value found)) corrected.found

-- ---- an input whose lines were read

module _ (input : List ℕ) (q : SheetRead) (rest : List ℕ) (lines : read_lines input ≡ got q rest) where
  abbrev own : Code
  own = q.code

  -- The line behind w.
  abbrev first : ℕ
  first = q.claim_at + 1

  pub report-by-fault : (fault : Option Refusal) → code_fault q.claim_at own ≡ fault
      → report_text input ≡ report_of_code q rest fault
  unfolding report_text report_of_lines
  report-by-fault fault e = ap report_of_lines lines ∙ ap (report_of_code q rest) e

  module _
      (faultless : code_fault q.claim_at own ≡ None) (syndromes : List (List Bool)) (all : HaveRBits own syndromes)
    where
      report-by-lines : report_text input ≡ report_of_syndromes own (lines_from own first rest)
      unfolding report_of_code
      report-by-lines = report-by-fault None faultless

      pub report-answered : rest ≡ syndromes_text syndromes
          → report_text input ≡ code_text own ++ flat_map (correction_line own) syndromes
      unfolding report_of_syndromes
      report-answered e =
          report-by-lines
          ∙ ap (report_of_syndromes own) (ap (lines_from own first) e ∙ lines-return own syndromes first all)

      pub report-misread : (behind : List ℕ) → rest ≡ syndromes_text syndromes ++ behind → 0 < length behind
          → NoSyndrome own.r behind
          → report_text input ≡ refusal_text (Refusal.Syndrome (first + length syndromes))
      unfolding report_of_syndromes before
      report-misread behind e some bad =
          report-by-lines
          ∙ ap (report_of_syndromes own)
          (ap (lines_from own first) e ∙ lines_then own syndromes first behind all
          ∙ ap (before syndromes) (bad-line own (first + length syndromes) behind some bad))

-- ---- a sheet and what stands behind it

-- A lawful reading is what is read of its record's sheet, with anything behind.
pub lawful-returns : (q : SheetRead) → ReadIsLawful q → (rest : List ℕ)
    → length (sheet_text q.code ++ rest) ≤ longest_input → read_lines (sheet_text q.code ++ rest) ≡ got q rest
lawful-returns q lawful rest few =
    read-after-write q.code rest lawful.sized lawful.limits few
    ∙ ap₂ (λ (c : Code) (at : ℕ). got (record { code = c; claim_at = at }) rest) lawful.phases (sym lawful.claim)

-- The lines of a sheet are read alike with anything behind them.
pub lines-before : (s rest : List ℕ) (q : SheetRead) → read_lines s ≡ got q [] → length (s ++ rest) ≤ longest_input
    → read_lines (s ++ rest) ≡ got q rest
lines-before s rest q lines few =
    let text : sheet_text q.code ≡ s = rw append-nil at (write-after-read s q [] lines) in
    ap (λ (t : List ℕ). read_lines (t ++ rest)) (sym text)
    ∙ lawful-returns q (reads-are-lawful s q [] lines) rest (rw text few)

pub refusals-are-reported : RefusalsAreReported
unfolding report_of_code
refusals-are-reported s rest q refusal form fault few =
    report-by-fault _ q rest (lines-before s rest q (form-has-nothing-behind s q [] form) few) _ fault

pub syndromes-are-reported : SyndromesAreReported
syndromes-are-reported s syndromes h counts few =
    let a = admitted-as s h in
    let behind = syndromes_text syndromes in
    report-answered (s ++ behind) _ behind (lines-before s behind _ a.lines few) a.faultless syndromes
    (all-members _ syndromes counts) refl

pub bad-lines-are-reported : BadLinesAreReported
bad-lines-are-reported s q syndromes rest form h counts bad some few =
    let behind = syndromes_text syndromes ++ rest in
    let lines = lines-before s behind q (form-has-nothing-behind s q [] form) few in
    report-misread (s ++ behind) q behind lines (admitted-faultless s q form h) syndromes
    (all-members _ syndromes counts) rest refl some bad
