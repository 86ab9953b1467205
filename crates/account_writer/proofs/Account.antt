-- The account part by part, with the parts' lengths; and what the call answers.
use Rattle.std.specs.Prelude.{Option, None, Result, Ok}
use mathlib.Core.Bool.{Bool, true, false}
use mathlib.Core.List.{List, ◌++◌}
use mathlib.Core.Path.{◌≡◌, refl, ap, ap₂, sym, ◌∙◌}
use Prim.Native.Nat.{ℕ, ◌+◌, ◌-◌, ◌*◌, ◌≤◌, ◌<◌, min}
use native.Mathlib.Omega.{arith}
use borrow.Author.Tests.{le-leb, lt-leb, leb-true, leb-false}
use lib.Dec.{leb}
use lib.ListN.{length, take, length-append}
use Rattle.code_record.specs.declared.Code.{Code}
use Rattle.refusals.specs.declared.Refusal.{Refusal}
use Rattle.refusals.specs.Refusals.{count_of}
use Rattle.code_record.specs.Record.{most_qubits, row_room, generators, logical_count, radius, qubit_fault}
use Rattle.code_record.proofs.Limits.{limits}
use Rattle.sheet.specs.Text.{laid, written}
use Rattle.sheet.proofs.Laid.{lent, back, Holds, length-lent, end-within, holds_as, holds_more}
use Rattle.sheet.proofs.WrittenText.{written-whole, count-is, content-is}
use Rattle.row_writer.proofs.Lines.{qubits-within}
use Rattle.rows_writer.specs.Rows.{rows_text}
use Rattle.rows_writer.proofs.Rows.{length-there}
use Rattle.reduced_rows.specs.declared.ReducedRows.{ReducedRows}
use Rattle.reduced_rows.specs.Rows.{rows_in, reduced_of}
use Rattle.stabilizer.specs.Canonical.{canonical_generators}
use Rattle.stabilizer.specs.Checks.{group_fault}
use Rattle.elimination.proofs.Passed.{passed-within}
use Rattle.canonical.proofs.Text.{text-is}
use Rattle.letter_words.specs.Words.{syndrome_words}
use Rattle.letter_words.proofs.Sums.{all-qubits}
use Rattle.reporting.specs.Report.{code_text}
use Rattle.header_writer.specs.Header.{header_text}
use Rattle.header_writer.proofs.HeaderCall.{header-begins-code}
use Rattle.letter_sums.specs.declared.LetterWords.{LetterWords}
use Rattle.correction_lines.specs.CorrectionLines.{corrections_text, corrections_fit}
use Rattle.correction_lines.proofs.Fits.{fit-counted}
use Rattle.corrections_writer.specs.Corrections.{write_corrections}
use Rattle.account_writer.specs.Account.{code_by, account_by, account_text, write_account}
use Rattle.account_writer.specs.Statements.{AccountIsOfRecord}

module _ (c : Code) (hs : ReducedRows) where
  abbrev pub header : List ℕ
  header = header_text c.n (logical_count c) c.d (radius c)

  abbrev pub row_lines : List ℕ
  row_lines = rows_text 104 c.n (take hs.count hs.rows)

  pub code-parts : header ++ row_lines ≡ code_by c hs
  unfolding code_by rows_in
  code-parts = refl

  pub length-code_by : length hs.rows ≡ row_room
      → length (code_by c hs) ≡ length header + min hs.count row_room * (c.n + 4)
  length-code_by sized =
      ap length (sym code-parts) ∙ length-append header row_lines
      ∙ ap (λ (m : ℕ). length header + m) (length-there hs.rows row_room sized hs.count 104 c.n)

-- ---- whether it fits

-- What does not fit whole, and what fits behind its front.
shifted : (m front room : ℕ) → front ≤ room → leb m (room - front) ≡ leb (front + m) room
shifted m front room h = by-test (leb m (room - front)) refl
  where
    by-test : (b : Bool) → leb m (room - front) ≡ b → b ≡ leb (front + m) room
    by-test true e = sym (le-leb (front + m) room (omega (arith, leb-true m (room - front) e)))
    by-test false e = sym (lt-leb (front + m) room (omega (arith, leb-false m (room - front) e)))

module _ (c : Code) (hs : ReducedRows) (words : LetterWords) (s : List ℕ) where
  abbrev pub corrections : List ℕ
  corrections = corrections_text words (radius c) c.r s

  pub account-parts : code_by c hs ++ corrections ≡ account_by c hs words s
  unfolding account_by
  account-parts = refl

  pub length-account : length (account_by c hs words s) ≡ length (code_by c hs) + length corrections
  length-account = ap length (sym account-parts) ∙ length-append (code_by c hs) corrections

  module _ (room : ℕ) where
    pub front-unfit : room < length (code_by c hs) → false ≡ leb (length (account_by c hs words s)) room
    front-unfit h = sym (lt-leb (length (account_by c hs words s)) room (omega (arith, length-account)))

    pub rest-decides : 2 ≤ words.qubits → words.qubits ≤ most_qubits → length (code_by c hs) ≤ room
        → {fits : Bool} → fits ≡ corrections_fit words (radius c) c.r s (room - length (code_by c hs))
        → fits ≡ leb (length (account_by c hs words s)) room
    rest-decides low high h told =
        told ∙ sym (fit-counted words (radius c) c.r s (room - length (code_by c hs)) low high refl)
        ∙ shifted (length corrections) (length (code_by c hs)) room h
        ∙ ap (λ (m : ℕ). leb m room) (sym length-account)

-- ---- the corrections behind the code's lines

module _
    (c : Code) (hs : ReducedRows) (words : LetterWords) (s : List ℕ) {buffer out : List ℕ} {end : ℕ}
    (fits : length (account_by c hs words s) ≤ length buffer) (front : Holds (code_by c hs) buffer out end) where
  pub front-within : end ≤ length out
  front-within = end-within front (omega (arith, length-account c hs words s))

  module _ (low : 2 ≤ words.qubits) (high : words.qubits ≤ most_qubits) {t : ℕ} (same : t ≡ radius c) where
    abbrev given : List ℕ
    given = corrections_text words t c.r s

    abbrev part : List ℕ
    part = lent end out

    same-corrections : given ≡ corrections c hs words s
    same-corrections = ap (λ (t : ℕ). corrections_text words t c.r s) same

    whole : write_corrections words t c.r s part ≡ record { answer = Ok (length given); buffer = laid given part }
    unfolding write_corrections
    whole =
        written-whole given part (qubits-within words.qubits low high)
        (omega (
          arith,
          ap length same-corrections,
          length-account c hs words s,
          length-lent end out,
          front.size,
          front.count,
        ))

    pub account-laid : {answer : Result ℕ Refusal} → answer ≡ (write_corrections words t c.r s part).answer
        → {after : List ℕ} → after ≡ (write_corrections words t c.r s part).buffer → length after ≡ length part
        → {count : ℕ} → count ≡ count_of answer
        → Holds (account_by c hs words s) buffer (back end out after) (end + count)
    account-laid told left kept counted =
        holds_as
        (holds_more front given (count-is given part whole told counted) (content-is given part whole left) kept)
        (ap (λ (lines : List ℕ). code_by c hs ++ lines) same-corrections ∙ account-parts c hs words s)

-- ---- the words of the record itself

module _ (c : Code) {words : LetterWords} (own : words ≡ syndrome_words c) where
  pub words-within : (2 ≤ c.n) × (c.n ≤ most_qubits) → (2 ≤ words.qubits) × (words.qubits ≤ most_qubits)
  unfolding syndrome_words
  words-within within =
      let all : words.qubits ≡ c.n = ap (λ w. w.qubits) own ∙ all-qubits c (omega (arith, within.1)) in omega arith

  pub own-account : (hs : ReducedRows) (s : List ℕ) → account_by c hs words s ≡ account_by c hs (syndrome_words c) s
  own-account hs s = ap (λ (w : LetterWords). account_by c hs w s) own

-- ---- a record that passes

-- By its canonical generators it is the account of the record.
module _ (c : Code) (passes : group_fault c ≡ None) where
  abbrev found : ReducedRows
  found = reduced_of c.n (canonical_generators c.n (generators c))

  code_is : code_by c found ≡ code_text c
  unfolding rows_in
  code_is =
      sym (code-parts c found) ∙ ap (λ (rows : List ℕ). header c found ++ rows) (text-is c (sym passes) found refl)
      ∙ sym (header-begins-code c)

  no-fault : qubit_fault c.n ≡ None
  no-fault = let q = (limits c (passed-within c (sym passes))).qubits in qubits-within c.n q.0 q.1

pub account-is-of-record : AccountIsOfRecord
unfolding write_account account_text
account-is-of-record c passes s buffer =
    ap₂ (λ (fault : Option Refusal) (text : List ℕ). written fault text buffer) (no-fault c passes)
    (sym (account-parts c (found c passes) (syndrome_words c) s)
    ∙ ap (λ (front : List ℕ). front ++ corrections c (found c passes) (syndrome_words c) s) (code_is c passes))
