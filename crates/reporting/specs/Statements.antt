-- What is stated of the report.
use Rattle.std.specs.Prelude.{Some, Result, Ok, Err}
use Rattle.std.specs.Result.{result_err}
use Rattle.std.specs.Prelude.{Bool, true, ◌⊎◌, ◌≡◌, ℕ, ◌+◌, ◌≤◌, ◌<◌, length}
use mathlib.Core.List.{List, [], ◌∷◌, ◌++◌, map, flat_map, Mem, Memᴰ}
use Prim.Native.String.{◌++◌ as ◌⧺◌}
use Rattle.pauli.specs.declared.Pauli.{Pauli}
use Rattle.pauli.specs.Letters.{letter_text}
use Rattle.letters.specs.Letters.{letter_byte}
use Rattle.letters.specs.Lists.{bytes}
use Rattle.pauli.specs.Product.{weight}
use Rattle.pauli.specs.Syndrome.{syndrome}
use Rattle.code_record.specs.declared.Code.{Code}
use Rattle.refusals.specs.declared.ErrorPair.{ErrorPair}
use Rattle.refusals.specs.declared.Refusal.{Refusal}
use Rattle.code_record.specs.Record.{generators, on_qubits, radius, longest_input}
use Rattle.sheet.specs.Reader.{SheetRead, got, stop, read_lines, read_form}
use Rattle.sheet.specs.Starred.{Entry, starred}
use Rattle.sheet.specs.Statements.{RefusalLeaves, Among}
use Rattle.sheet.specs.Text.{line, decimal, After, laid, untouched}
use Rattle.admission.specs.Admission.{AdmissibleButForDistance, code_fault, admitted, read_sheet}
use Rattle.admission.specs.Statements.{FromEarliest}
use Rattle.decoder.specs.Syndrome.{syndrome_text}
use Rattle.decoder.specs.Statements.{IsCorrected, Refutes, Refuted}
use Rattle.reporting.specs.Report.{longest_report, code_text, correction_line, refusal_text, report_text, write_report}

-- ---- the call

-- RULES, "The report": no report is longer than this.
abbrev pub ReportFits : Type 0
ReportFits = (s : List ℕ) → length (report_text s) ≤ longest_report

-- What a call left that has this text to write: the text, with its length for an answer, in every buffer that holds the
-- longest report and in every one that is as long as the text; a shorter one is refused with 17, and is as it was.
pub record WritesReport (text buffer : List ℕ) (after : After (Result ℕ Refusal)) : Type 0 where
  pub written : (longest_report ≤ length buffer) ⊎ (length text ≤ length buffer)
      → after ≡ record { answer = Ok (length text); buffer = laid text buffer }
  pub short : length buffer < length text → after ≡ untouched (Err Refusal.ShortBuffer) buffer

-- The report's call has this text to write, whatever buffer it is lent.
abbrev pub IsReported : List ℕ → List ℕ → Type 0
IsReported input text = (buffer : List ℕ) → WritesReport text buffer (write_report input buffer)

abbrev pub ReportIsWritten : Type 0
ReportIsWritten = (input : List ℕ) → IsReported input (report_text input)

-- RULES, "Calls and buffers": the one refusal of a report's call is 17, and it leaves the buffer as it was.
abbrev pub ReportRefusalNumbers : Type 0
ReportRefusalNumbers =
    (s buffer : List ℕ) (refusal : Refusal) → result_err (write_report s buffer).answer ≡ Some refusal
    → Among (17 ∷ []) refusal

abbrev pub ReportRefusalsLeave : Type 0
ReportRefusalsLeave = (s buffer : List ℕ) → RefusalLeaves result_err buffer (write_report s buffer)

-- ---- a sheet and what stands behind it

-- The `s=` line of a syndrome, and the lines of several.
abbrev pub syndrome_line_text : List Bool → List ℕ
syndrome_line_text bits = line "s=" (syndrome_text bits)

abbrev pub syndromes_text : List (List Bool) → List ℕ
syndromes_text syndromes = flat_map syndrome_line_text syndromes

-- Each of the syndromes has r bits.
abbrev pub HaveBits : ℕ → List (List Bool) → Type 0
HaveBits r syndromes = (bits : List Bool) → Mem bits syndromes → length bits ≡ r

-- The bytes do not begin with the line of a syndrome of r bits.
abbrev pub NoSyndrome : ℕ → List ℕ → Type 0
NoSyndrome r s = (bits : List Bool) (behind : List ℕ) → length bits ≡ r → s ≡ syndrome_line_text bits ++ behind → ⊥

-- A sheet that 6 to 14 refuse has that refusal as its report, whatever stands behind it. So the `e=` and `f=` of a
-- report are the two errors that refusal 14 carries.
abbrev pub RefusalsAreReported : Type 0
RefusalsAreReported =
    (s rest : List ℕ) (q : SheetRead) (refusal : Refusal) → read_form s ≡ got q []
    → code_fault q.claim_at q.code ≡ Some refusal → length (s ++ rest) ≤ longest_input
    → report_text (s ++ rest) ≡ refusal_text refusal

-- An admitted sheet and any syndromes behind it have one `c=` line for each syndrome.
abbrev pub SyndromesAreReported : Type 0
SyndromesAreReported =
    (s : List ℕ) (syndromes : List (List Bool)) → (read_sheet s).answer ≡ Ok tt
    → HaveBits (read_sheet s).code.r syndromes → length (s ++ syndromes_text syndromes) ≤ longest_input
    → report_text (s ++ syndromes_text syndromes)
    ≡ code_text (read_sheet s).code ++ flat_map (correction_line (read_sheet s).code) syndromes

-- RULES, "The report": the first line behind w that is not a syndrome's is refused with 16, whatever stands behind it.
abbrev pub BadLinesAreReported : Type 0
BadLinesAreReported =
    (s : List ℕ) (q : SheetRead) (syndromes : List (List Bool)) (rest : List ℕ) → read_form s ≡ got q []
    → (read_sheet s).answer ≡ Ok tt → HaveBits q.code.r syndromes → NoSyndrome q.code.r rest
    → 0 < length rest → length (s ++ (syndromes_text syndromes ++ rest)) ≤ longest_input
    → report_text (s ++ (syndromes_text syndromes ++ rest))
    ≡ refusal_text (Refusal.Syndrome (q.claim_at + 1 + length syndromes))

-- Of an admitted sheet the report shows n, d and the generators: whatever its logicals and its w are, the report is the
-- same.
pub record SameCode (c c' : Code) : Type 0 where
  pub qubits : c.n ≡ c'.n
  pub rows : c.r ≡ c'.r
  pub distance : c.d ≡ c'.d
  pub generated : generators c ≡ generators c'

abbrev pub LogicalsAreNotReported : Type 0
LogicalsAreNotReported =
    (s s' : List ℕ) (syndromes : List (List Bool)) → (read_sheet s).answer ≡ Ok tt
    → (read_sheet s').answer ≡ Ok tt → SameCode (read_sheet s).code (read_sheet s').code
    → HaveBits (read_sheet s).code.r syndromes → length (s ++ syndromes_text syndromes) ≤ longest_input
    → length (s' ++ syndromes_text syndromes) ≤ longest_input
    → report_text (s ++ syndromes_text syndromes) ≡ report_text (s' ++ syndromes_text syndromes)

-- ---- every report

-- Every report is one of these: a refusal of 1 to 5, of the lines; a refusal of 6 to 14; 16 at the first line behind w
-- that is no syndrome's; the account of an admitted sheet, with a correction for each syndrome behind it. So no report
-- has another number.
pub data ReportOf (input : List ℕ) : Type 0 where
  unread : (refusal : Refusal) → read_lines input ≡ stop refusal → Among (1 ∷ 2 ∷ 3 ∷ 4 ∷ 5 ∷ []) refusal
      → report_text input ≡ refusal_text refusal → ReportOf input
  faulty : (s rest : List ℕ) (q : SheetRead) (refusal : Refusal) → input ≡ s ++ rest → read_form s ≡ got q []
      → code_fault q.claim_at q.code ≡ Some refusal
      → Among (6 ∷ 7 ∷ 8 ∷ 9 ∷ 10 ∷ 11 ∷ 12 ∷ 13 ∷ 14 ∷ []) refusal → report_text input ≡ refusal_text refusal
      → ReportOf input
  misread : (s rest : List ℕ) (q : SheetRead) (syndromes : List (List Bool))
      → input ≡ s ++ (syndromes_text syndromes ++ rest) → read_form s ≡ got q [] → read_sheet s ≡ admitted q.code
      → HaveBits q.code.r syndromes → 0 < length rest → NoSyndrome q.code.r rest
      → report_text input ≡ refusal_text (Refusal.Syndrome (q.claim_at + 1 + length syndromes)) → ReportOf input
  answered : (s : List ℕ) (c : Code) (syndromes : List (List Bool)) → input ≡ s ++ syndromes_text syndromes
      → read_sheet s ≡ admitted c → HaveBits c.r syndromes
      → report_text input ≡ code_text c ++ flat_map (correction_line c) syndromes → ReportOf input

abbrev pub EveryReport : Type 0
EveryReport = (input : List ℕ) → ReportOf input

-- ---- the third guarantee, in a report

-- RULES, "Guarantees": the `c=` line of an error that is corrected has the correction's letters.
abbrev pub CorrectionsAreReported : Type 0
CorrectionsAreReported =
    (c : Code) (E : Pauli) (corrected : IsCorrected c E)
    → correction_line c (syndrome (generators c) E) ≡ line "c=" (map letter_byte corrected.letters)

-- An error that is to be corrected: a Pauli on the code's qubits, of weight at most t.
pub record Struck (c : Code) : Type 0 where
  pub error : Pauli
  pub on_code : on_qubits c.n error ≡ true
  pub light : weight error ≤ radius c

-- The `s=` lines of the errors' syndromes.
abbrev pub error_lines : (c : Code) → List (Struck c) → List ℕ
error_lines c errors = flat_map (λ (E : Struck c). syndrome_line_text (syndrome (generators c) E.error)) errors

-- Their `c=` lines: the letters of each error's correction.
abbrev pub corrected_lines : (c : Code) → ((E : Struck c) → IsCorrected c E.error) → List (Struck c) → List ℕ
corrected_lines c corrected errors =
    flat_map (λ (E : Struck c). line "c=" (map letter_byte (corrected E).letters)) errors

-- The lines `r=14`, `at=` with w's line, `e=` and `f=`.
abbrev pub refutation_text : SheetRead → ErrorPair → List ℕ
refutation_text q pair =
    bytes "r=14\n" ++ line "at=" (decimal q.claim_at) ++ line "e=" (letter_text q.code.n pair.e)
    ++ line "f=" (letter_text q.code.n pair.f)

-- ---- the guarantee

-- RULES, "Guarantees": what a report's call left that shows corrections of errors. Behind the account of the code each
-- error has a `c=` line with the letters of its correction.
pub record CorrectsInReport (c : Code) (errors : List (Struck c)) (buffer : List ℕ) (after : After (Result ℕ Refusal))
    : Type 0 where
  pub corrected : (E : Struck c) → IsCorrected c E.error
  pub writes : WritesReport (code_text c ++ corrected_lines c corrected errors) buffer after

-- RULES, "Guarantees": what a report's call left that answers syndromes, whatever they are. Behind the account of the
-- code each has its `c=` line, and that of an error's syndrome has the letters of the error's correction.
pub record AnswersInReport (c : Code) (syndromes : List (List Bool)) (buffer : List ℕ)
    (after : After (Result ℕ Refusal)) : Type 0 where
  pub corrected : (E : Struck c) → IsCorrected c E.error
  pub shown : (E : Struck c) → correction_line c (syndrome (generators c) E.error)
      ≡ line "c=" (map letter_byte (corrected E).letters)
  pub writes : WritesReport (code_text c ++ flat_map (correction_line c) syndromes) buffer after

-- RULES, "Guarantees": what a report's call left that refutes a distance. The report has those four lines and no other,
-- with two errors that refute the distance, from the earliest logical error.
pub record RefutesInReport (q : SheetRead) (buffer : List ℕ) (after : After (Result ℕ Refusal)) : Type 0 where
  pub pair : ErrorPair
  pub refutes : Refutes q.code pair.e pair.f
  pub from : FromEarliest q.code pair
  pub writes : WritesReport (refutation_text q pair) buffer after

-- RULES, "Guarantees": the third one, of what a report's call left of its buffer. Where the input is an admitted sheet
-- and the syndromes of errors that strike at most t qubits each, their corrections are shown; and so they are where
-- other syndromes stand among them. Where it is a sheet that is admissible but for distance, with anything behind it,
-- and two errors refute its distance, two such are shown. In every other case that sheet is admitted.
pub record GuaranteedReport (input buffer : List ℕ) (after : After (Result ℕ Refusal)) : Type 0 where
  pub corrected : (s : List ℕ) → (read_sheet s).answer ≡ Ok tt
      → (errors : List (Struck (read_sheet s).code)) → input ≡ s ++ error_lines (read_sheet s).code errors
      → length input ≤ longest_input → CorrectsInReport (read_sheet s).code errors buffer after
  pub answered : (s : List ℕ) → (read_sheet s).answer ≡ Ok tt → (syndromes : List (List Bool))
      → HaveBits (read_sheet s).code.r syndromes → input ≡ s ++ syndromes_text syndromes
      → length input ≤ longest_input → AnswersInReport (read_sheet s).code syndromes buffer after
  pub refuted : (s rest : List ℕ) (q : SheetRead) → AdmissibleButForDistance s q → Refuted q.code
      → input ≡ s ++ rest → length input ≤ longest_input → RefutesInReport q buffer after
  pub otherwise : (s : List ℕ) (q : SheetRead) → AdmissibleButForDistance s q → (Refuted q.code → ⊥)
      → read_sheet s ≡ admitted q.code

abbrev pub GuaranteeInReports : Type 0
GuaranteeInReports = (input buffer : List ℕ) → GuaranteedReport input buffer (write_report input buffer)

-- ---- the starred sheets

-- An entry of the table is right: the answer of the sheet read by itself, the bytes of the report, and what the call
-- for a report writes.
pub record Right (e : Entry) : Type 0 where
  pub answer : result_err (read_sheet (bytes e.sheet)).answer ≡ e.refusal
  pub report : report_text (bytes (e.sheet ⧺ e.behind)) ≡ bytes e.report
  pub call : IsReported (bytes (e.sheet ⧺ e.behind)) (bytes e.report)

abbrev pub StarredAreRight : Type 0
StarredAreRight = (e : Entry) → Memᴰ e starred → Right e
