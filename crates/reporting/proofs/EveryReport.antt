-- Every report is of one of four kinds: an input is not read, or is a sheet and bytes behind it. The sheet has a
-- fault or is admitted; and behind an admitted sheet, any bytes are lines of syndromes and then nothing, or a line
-- that is none.
use Rattle.std.specs.Prelude.{Option, Some, None}
use Rattle.std.specs.Result.{result_err}
use mathlib.Core.Bool.{Bool}
use mathlib.Core.List.{List, [], ◌∷◌, ◌++◌, flat_map, append-nil, append_assoc}
use mathlib.Core.Logic.{◌⊎◌, inl, inr}
use mathlib.Core.Path.{◌≡◌, refl, ap, sym, ◌∙◌}
use Prim.Native.Nat.{ℕ, zero, suc, ◌≤◌, ◌<◌}
use native.Mathlib.Nat.{ℕ_set}
use native.Mathlib.Omega.{arith}
use lib.ListN.{length, length-append}
use Rattle.letters.specs.Lists.{any_of}
use Rattle.code_record.specs.declared.Code.{Code}
use Rattle.refusals.specs.declared.Refusal.{Refusal}
use Rattle.sheet.specs.Reader.{SheetRead, Parsed, got, stop, continue, read_lines, nothing_behind, read_form}
use Rattle.sheet.specs.Reader.{answered, lines_reading}
use Rattle.sheet.specs.Statements.{Among}
use Rattle.sheet.specs.Writer.{sheet_text}
use Rattle.sheet.proofs.Lengths.{sheet_text-le}
use Rattle.sheet.proofs.Numbers.{law-of-refusal, sheet-refusal-numbers}
use Rattle.sheet.proofs.Outcome.{what_was-got}
use Rattle.sheet.proofs.ReadBack.{reads-are-lawful, write-after-read}
use Rattle.admission.specs.Admission.{code_fault, admitted, checked, reading_of, read_sheet}
use Rattle.admission.proofs.Refusals.{OfChecks, law-of-fault, checks-refuse}
use Rattle.reporting.specs.Report.{syndrome_line, report_of_code, report_of_lines, report_text}
use Rattle.reporting.specs.Statements.{syndrome_line_text, syndromes_text, HaveBits, NoSyndrome, ReportOf}
use Rattle.reporting.specs.Statements.{EveryReport}
use Rattle.reporting.proofs.Lists.{member-of-all}
use Rattle.reporting.proofs.Report.{report-by-fault, report-answered, report-misread, lawful-returns}
use Rattle.reporting.proofs.Steps.{syndrome-line-outcome}
use Rattle.reporting.proofs.Syndromes.{HaveRBits, length-syndrome-line, line_read}

-- ---- the lines of syndromes that bytes begin with

module _ (c : Code) where
  record Split (s : List ℕ) : Type 0 where
    syndromes : List (List Bool)
    rest : List ℕ
    counts : HaveRBits c syndromes
    bytes-are : s ≡ syndromes_text syndromes ++ rest
    ended : (rest ≡ []) ⊎ ((0 < length rest) × NoSyndrome c.r rest)

  split-nothing : Split []
  unfolding flat_map
  split-nothing = record { syndromes = []; rest = []; counts = tt; bytes-are = refl; ended = inl refl }

  split-more : (s : List ℕ) (bits : List Bool) (behind : List ℕ) → length bits ≡ c.r
      → s ≡ syndrome_line_text bits ++ behind → Split behind → Split s
  unfolding flat_map
  split-more s bits behind count e more =
      record {
        syndromes = bits ∷ more.syndromes;
        rest = more.rest;
        counts = (count, more.counts);
        bytes-are = e ∙ ap (λ (t : List ℕ). syndrome_line_text bits ++ t) more.bytes-are
            ∙ sym (append_assoc (syndrome_line_text bits) (syndromes_text more.syndromes) more.rest);
        ended = more.ended;
      }

  split-bad : (s : List ℕ) (refusal : Refusal) → 0 < length s → syndrome_line c 0 s ≡ stop refusal → Split s
  unfolding flat_map
  split-bad s refusal there e =
      record { syndromes = []; rest = s; counts = tt; bytes-are = refl; ended = inr (there, none-there) }
    where
      none-there : NoSyndrome c.r s
      none-there bits behind count at =
          let read : got bits behind ≡ stop refusal =
          sym (line_read c 0 bits behind count) ∙ ap (syndrome_line c 0) (sym at) ∙ e in
          let never : ◌≡◌ {A = ℕ} 0 1 = cc in absurd (omega arith)

  split-lines : (most : ℕ) (s : List ℕ) → length s ≤ most → Split s
  split-lines zero [] few = split-nothing
  split-lines (suc most) [] few = split-nothing
  split-lines zero (b ∷ s) few = absurd (omega arith)
  split-lines (suc most) (b ∷ s) few =
      go (syndrome_line c 0 (b ∷ s)) refl (λ behind h. split-lines most behind (omega arith))
    where
      go : (p : Parsed (List Bool)) → syndrome_line c 0 (b ∷ s) ≡ p
          → ((behind : List ℕ) → length behind < length (b ∷ s) → Split behind) → Split (b ∷ s)
      go (got bits behind) e later =
          let took = what_was-got (syndrome-line-outcome c 0 (b ∷ s)) e in
          let counts = ap length took.bytes_read ∙ length-append (syndrome_line_text bits) behind in
          split-more (b ∷ s) bits behind took.lawful took.bytes_read
          (later behind (omega (arith, length-syndrome-line bits)))
      go (stop refusal) e later = split-bad (b ∷ s) refusal (omega arith) e

-- ---- the numbers

unread-number : (s : List ℕ) (refusal : Refusal) → read_lines s ≡ stop refusal
    → Among (1 ∷ 2 ∷ 3 ∷ 4 ∷ 5 ∷ []) refusal
unfolding lines_reading answered
unread-number s refusal e =
    sheet-refusal-numbers.lines s refusal (ap (λ p. result_err (answered s p).answer) e)

checks-number : (at : ℕ) (c : Code) (refusal : Refusal) → OfChecks at c refusal
    → Among (6 ∷ 7 ∷ 8 ∷ 9 ∷ 10 ∷ 11 ∷ 12 ∷ 13 ∷ 14 ∷ []) refusal
unfolding any_of
checks-number at c refusal (OfChecks.six h) = refl
checks-number at c refusal (OfChecks.seven h) = refl
checks-number at c refusal (OfChecks.eight h) = refl
checks-number at c refusal (OfChecks.nine h) = refl
checks-number at c refusal (OfChecks.ten h) = refl
checks-number at c refusal OfChecks.eleven = refl
checks-number at c refusal OfChecks.twelve = refl
checks-number at c refusal OfChecks.thirteen = refl
checks-number at c refusal (OfChecks.fourteen s) = refl

-- ---- a sheet that was read, and what stands behind it

module _ (input : List ℕ) (q : SheetRead) (rest : List ℕ) (lines : read_lines input ≡ got q rest) where
  abbrev c : Code
  c = q.code

  abbrev sheet : List ℕ
  sheet = sheet_text c

  sheet-form : read_form sheet ≡ got q []
  unfolding read_form continue nothing_behind
  sheet-form =
      let lawful = reads-are-lawful input q rest lines in
      let short = sheet_text-le c lawful.sized lawful.limits in
      let alone : read_lines sheet ≡ got q [] =
      ap read_lines (sym (append-nil sheet)) ∙ lawful-returns q lawful [] (rw append-nil (omega arith)) in
      ap (λ (p : Parsed SheetRead). continue p nothing_behind) alone

  sheet-admitted : code_fault q.claim_at c ≡ None → read_sheet sheet ≡ admitted c
  unfolding read_sheet checked reading_of
  sheet-admitted faultless = ap checked sheet-form ∙ ap (reading_of c) faultless

  input-is : {behind : List ℕ} → rest ≡ behind → input ≡ sheet ++ behind
  input-is e = sym (write-after-read input q rest lines) ∙ ap (λ (t : List ℕ). sheet ++ t) e

  members : (split : Split c rest) → HaveBits c.r split.syndromes
  members split = member-of-all _ (λ bits. ℕ_set (length bits) c.r) split.syndromes split.counts

  report-split : code_fault q.claim_at c ≡ None → (split : Split c rest)
      → (split.rest ≡ []) ⊎ ((0 < length split.rest) × NoSyndrome c.r split.rest) → ReportOf input
  report-split faultless split (inl e) =
      let syndromes = split.syndromes in
      let all_read : rest ≡ syndromes_text syndromes =
      split.bytes-are ∙ ap (λ (t : List ℕ). syndromes_text syndromes ++ t) e ∙ append-nil _ in
      ReportOf.answered sheet c syndromes (input-is all_read) (sheet-admitted faultless) (members split)
      (report-answered input q rest lines faultless syndromes split.counts all_read)
  report-split faultless split (inr (there, bad)) =
      ReportOf.misread sheet split.rest q split.syndromes (input-is split.bytes-are) sheet-form
      (sheet-admitted faultless) (members split) there bad
      (report-misread input q rest lines faultless split.syndromes split.counts split.rest split.bytes-are
      there bad)

  report-read : (fault : Option Refusal) → code_fault q.claim_at c ≡ fault → ReportOf input
  unfolding report_of_code
  report-read None e =
      let split = split-lines c (length rest) rest (omega arith) in report-split e split split.ended
  report-read (Some refusal) e =
      ReportOf.faulty sheet rest q refusal (input-is refl) sheet-form e
      (law-of-refusal (law-of-fault (checks-number q.claim_at c) (checks-refuse q.claim_at c)) refusal e)
      (report-by-fault input q rest lines (Some refusal) e)

pub every-report : EveryReport
unfolding report_text report_of_lines
every-report input = go (read_lines input) refl
  where
    go : (p : Parsed SheetRead) → read_lines input ≡ p → ReportOf input
    go (got q rest) e = report-read input q rest e (code_fault q.claim_at q.code) refl
    go (stop refusal) e = ReportOf.unread refusal e (unread-number input refusal e) (ap report_of_lines e)
