-- What is stated of the reader and the writer together.
use Rattle.std.specs.Prelude.{Option, Some}
use Rattle.std.specs.Result.{result_err}
use Rattle.std.specs.Prelude.{true, List, [], ◌∷◌, ◌++◌, map, ◌≡◌, ℕ, ◌≤◌, eqb, length}
use Rattle.letters.specs.Lists.{any_of}
use Rattle.pauli.specs.Product.{modulo4}
use Rattle.code_record.specs.declared.Code.{Code}
use Rattle.refusals.specs.declared.Refusal.{Refusal}
use Rattle.code_record.specs.Record.{most_qubits, longest_input, Sized}
use Rattle.code_record.specs.Record.{within_limits, claim_at}
use Rattle.refusals.specs.Refusals.{values}
use Rattle.sheet.specs.Reader.{SheetRead, got, read_form, read_lines, lines_reading, form_reading, behind}
use Rattle.sheet.specs.Text.{After}
use Rattle.sheet.specs.Writer.{sheet_text, write_sheet}

-- RULES, "Paulis": a phase counts modulo 4. A record with its phases brought to 0 to 3.
unfoldable pub phases_modulo4 : Code → Code
phases_modulo4 c = record {
  n = c.n;
  r = c.r;
  d = c.d;
  g = map modulo4 c.g;
  x = map modulo4 c.x;
  z = map modulo4 c.z;
  w = modulo4 c.w;
}

-- RULES, "The writer": reading what was written of a record within limits gives that record, the line of w in its
-- sheet, and what stood behind the sheet.
abbrev pub ReadAfterWrite : Type 0
ReadAfterWrite =
    (c : Code) (rest : List ℕ) → Sized c → within_limits c ≡ true → length (sheet_text c ++ rest) ≤ longest_input
    → read_lines (sheet_text c ++ rest) ≡ got (record { code = phases_modulo4 c; claim_at = claim_at c }) rest

-- RULES, "The writer": writing what was read gives the bytes that were read.
abbrev pub WriteAfterRead : Type 0
WriteAfterRead =
    (s : List ℕ) (q : SheetRead) (rest : List ℕ) → read_lines s ≡ got q rest → sheet_text q.code ++ rest ≡ s

-- The part behind the lines is what the definition leaves to be read on.
abbrev pub RestIsBehind : Type 0
RestIsBehind =
    (s : List ℕ) (q : SheetRead) (rest : List ℕ) → read_lines s ≡ got q rest → behind s (lines_reading s).answer ≡ rest

-- What is read is a record within limits, as a machine holds it, with phases 0 to 3; and w stands where its written
-- sheet has it.
pub record ReadIsLawful (q : SheetRead) : Type 0 where
  pub sized : Sized q.code
  pub limits : within_limits q.code ≡ true
  pub phases : phases_modulo4 q.code ≡ q.code
  pub claim : q.claim_at ≡ claim_at q.code

abbrev pub ReadsAreLawful : Type 0
ReadsAreLawful = (s : List ℕ) (q : SheetRead) (rest : List ℕ) → read_lines s ≡ got q rest → ReadIsLawful q

-- RULES, "The sheet": how many bytes a sheet has at most.
abbrev pub longest_sheet : ℕ
longest_sheet = 1352

-- RULES, "The sheet": how long a sheet is at most; one of 24 qubits and one generator is so long.
pub record LongestSheet : Type 0 where
  pub most : (s : List ℕ) (q : SheetRead) → read_form s ≡ got q [] → length s ≤ longest_sheet
  pub reached :
      (s : List ℕ) × (q : SheetRead) × (read_form s ≡ got q []) × (q.code.n ≡ most_qubits) × (q.code.r ≡ 1)
      × (length s ≡ longest_sheet)

-- ---- what a refusal leaves

-- RULES, "Calls and buffers": where the answer of a call carries a refusal, the buffer is what it was.
pub record RefusalLeaves {A : Type 0} (carried : A → Option Refusal) (buffer : List ℕ) (after : After A) : Type 0 where
  pub unchanged : (refusal : Refusal) → carried after.answer ≡ Some refusal → after.buffer ≡ buffer

abbrev pub WriterRefusalsLeave : Type 0
WriterRefusalsLeave = (c : Code) (buffer : List ℕ) → RefusalLeaves result_err buffer (write_sheet c buffer)

-- ---- the numbers

-- RULES, "Guarantees": a refusal has one of the numbers of its call, and no other.
abbrev pub Among : List ℕ → Refusal → Type 0
Among numbers refusal = any_of (eqb (values refusal).number) numbers ≡ true

-- The numbers with which the reader of the lines, the reader of a sheet by itself and the writer refuse.
pub record SheetRefusalNumbers : Type 0 where
  pub lines : (s : List ℕ) (refusal : Refusal) → result_err (lines_reading s).answer ≡ Some refusal
      → Among (1 ∷ 2 ∷ 3 ∷ 4 ∷ 5 ∷ []) refusal
  pub alone : (s : List ℕ) (refusal : Refusal) → result_err (form_reading s).answer ≡ Some refusal
      → Among (1 ∷ 2 ∷ 3 ∷ 4 ∷ 5 ∷ []) refusal
  pub writer : (c : Code) (buffer : List ℕ) (refusal : Refusal)
      → result_err (write_sheet c buffer).answer ≡ Some refusal → Among (15 ∷ 17 ∷ []) refusal
