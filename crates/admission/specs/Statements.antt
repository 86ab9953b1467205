-- What is stated of admitted sheets and of the search for logical errors.
use Rattle.std.specs.Prelude.{Option, Some, None, Ok, Err}
use Rattle.std.specs.Result.{result_err}
use Rattle.std.specs.Prelude.{true, List, [], ◌∷◌, ◌⊎◌, ◌≡◌, ℕ, ◌+◌, ◌/◌, ◌≤◌, ◌<◌, length}
use Rattle.letters.specs.declared.Letter.{Letter}
use Rattle.pauli.specs.declared.Pauli.{Pauli}
use Rattle.pauli.specs.Letters.{of_letters, letters_of}
use Rattle.pauli.specs.Order.{weight_of, Earlier}
use Rattle.pauli.specs.Product.{weight}
use Rattle.pauli.specs.Statements.{StringOrder}
use Rattle.code_record.specs.declared.Code.{Code}
use Rattle.refusals.specs.declared.ErrorPair.{ErrorPair}
use Rattle.refusals.specs.declared.Refusal.{Refusal}
use Rattle.code_record.specs.Record.{claim_at, on_qubits, within_limits, Sized}
use Rattle.sheet.specs.Reader.{SheetRead}
use Rattle.sheet.specs.Statements.{Among, phases_modulo4}
use Rattle.sheet.specs.Text.{laid, untouched}
use Rattle.sheet.specs.Writer.{sheet_text, write_sheet}
use Rattle.admission.specs.Admission.{AdmissibleButForDistance, code_fault, admitted, read_sheet}
use Rattle.admission.specs.Distance.{LogicalError, IsDistance, logical_error_up_to, refuting_pair, distance_fault}

-- ---- read and written, written and read

-- RULES, "Guarantees": an admitted sheet that is read and written gives the same bytes.
abbrev pub AdmittedSheetReturns : Type 0
AdmittedSheetReturns = (s : List ℕ) → (read_sheet s).answer ≡ Ok tt → sheet_text (read_sheet s).code ≡ s

-- RULES, "Guarantees": an admitted code that is written and read gives the same code, with phases 0 to 3.
abbrev pub AdmittedCodeReturns : Type 0
AdmittedCodeReturns =
    (c : Code) → Sized c → within_limits c ≡ true → code_fault (claim_at c) c ≡ None
    → read_sheet (sheet_text c) ≡ admitted (phases_modulo4 c)

-- The same of the writer's call: it writes the sheet that was read, or refuses with 17.
pub record AdmittedSheetIsWritten : Type 0 where
  pub whole : (s buffer : List ℕ) → (read_sheet s).answer ≡ Ok tt → length s ≤ length buffer
      → write_sheet (read_sheet s).code buffer ≡ record { answer = Ok (length s); buffer = laid s buffer }
  pub short : (s buffer : List ℕ) → (read_sheet s).answer ≡ Ok tt → length buffer < length s
      → write_sheet (read_sheet s).code buffer ≡ untouched (Err Refusal.ShortBuffer) buffer

-- ---- the distance

-- What a search answers: the first in the order of the strings that are wanted, or that there is none.
pub record FindsFirst (Before : StringOrder) (Wanted : List Letter → Type 0) (answer : Option (List Letter)) : Type 0
  where
    pub found : (s : List Letter) → answer ≡ Some s
        → Wanted s × ((t : List Letter) → Wanted t → (t ≡ s) ⊎ Before s t)
    pub missing : answer ≡ None → (s : List Letter) → Wanted s → ⊥

-- The strings that the search is for: logical errors of n letters, of weight at most v.
pub record LogicalString (c : Code) (v : ℕ) (s : List Letter) : Type 0 where
  pub letters : length s ≡ c.n
  pub light : weight_of s ≤ v
  pub logical : LogicalError c (of_letters s)

-- RULES, "Distance": the search finds the earliest logical error of weight at most v, or there is none.
abbrev pub LogicalErrorIsEarliest : Type 0
LogicalErrorIsEarliest = (c : Code) (v : ℕ) → FindsFirst Earlier (LogicalString c v) (logical_error_up_to c v)

-- RULES, "Distance": the claimed distance of an admitted sheet is its distance.
abbrev pub AdmittedDistanceIsTrue : Type 0
AdmittedDistanceIsTrue =
    (s : List ℕ) → (read_sheet s).answer ≡ Ok tt → IsDistance (read_sheet s).code (read_sheet s).code.d

-- ---- the two errors of refusal 14

-- The earliest of all logical errors, whatever their weight.
pub record EarliestLogical (c : Code) (s : List Letter) : Type 0 where
  pub letters : length s ≡ c.n
  pub logical : LogicalError c (of_letters s)
  pub earliest : (t : List Letter) → length t ≡ c.n → LogicalError c (of_letters t) → (t ≡ s) ⊎ Earlier s t

-- A row of n letters with sign +.
pub record PlusRow (n : ℕ) (P : Pauli) : Type 0 where
  pub on_code : on_qubits n P ≡ true
  pub plus : of_letters (letters_of n P) ≡ P

-- Two rows with sign + that together weigh as much as s, the first of them half of that, rounded up.
pub record Halves (n : ℕ) (s : List Letter) (E F : Pauli) : Type 0 where
  pub row_e : PlusRow n E
  pub row_f : PlusRow n F
  pub weights : weight E + weight F ≡ weight_of s
  pub half : weight E ≡ (weight_of s + 1) / 2

-- RULES, "Distance": the two errors are made from the letters of the earliest logical error.
pub record FromEarliest (c : Code) (pair : ErrorPair) : Type 0 where
  pub logical : List Letter
  pub is_earliest : EarliestLogical c logical
  pub parts : pair ≡ refuting_pair c.n logical
  pub halves : Halves c.n logical pair.e pair.f

-- The refusal is 14 at this line, and its two errors are from the earliest logical error.
pub record ShowsEarliest (at : ℕ) (c : Code) (refusal : Refusal) : Type 0 where
  pub pair : ErrorPair
  pub told : refusal ≡ Refusal.DistanceRefuted at pair
  pub from : FromEarliest c pair

-- Of a record, and of a sheet that is admissible but for distance: its one refusal is 14 at w, and shows them.
pub record RefutingPairIsFromEarliest : Type 0 where
  pub of_record : (at : ℕ) (c : Code) (refusal : Refusal) → distance_fault at c ≡ Some refusal
      → ShowsEarliest at c refusal
  pub of_sheet : (s : List ℕ) (q : SheetRead) (refusal : Refusal) → AdmissibleButForDistance s q
      → result_err (read_sheet s).answer ≡ Some refusal → ShowsEarliest q.claim_at q.code refusal

-- ---- the numbers of refusals

-- RULES, "Refusals": a sheet read by itself is refused with 1 to 14 and no other number.
abbrev pub AdmissionRefusalNumbers : Type 0
AdmissionRefusalNumbers =
    (s : List ℕ) (refusal : Refusal) → result_err (read_sheet s).answer ≡ Some refusal
    → Among (1 ∷ 2 ∷ 3 ∷ 4 ∷ 5 ∷ 6 ∷ 7 ∷ 8 ∷ 9 ∷ 10 ∷ 11 ∷ 12 ∷ 13 ∷ 14 ∷ []) refusal
