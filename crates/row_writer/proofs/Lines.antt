-- The lines of one row, as the code writes them: the first bytes, the letters behind them one by one, the line feed.
-- And what the calls answer.
use Rattle.std.specs.Prelude.{Some, None, Ok, Err, cond}
use Rattle.std.proofs.lemmas.Option.{none-some}
use mathlib.Core.Bool.{Bool, true, false, not}
use mathlib.Core.List.{List, [], ◌∷◌, ◌++◌}
use mathlib.Core.Path.{◌≡◌, refl, ap, sym, ◌∙◌}
use Prim.Native.Nat.{ℕ, ◌+◌, ◌≤◌, ◌<◌}
use Prim.Native.String.{String}
use native.Mathlib.Omega.{arith}
use lib.ListN.{length, take, drop, set, length-append}
use lib.Seq.{sets}
use Rattle.pauli.specs.declared.Pauli.{Pauli}
use Rattle.pauli.specs.Letters.{letter_text, row_text, sign_of}
use Rattle.letters.specs.Letters.{sign_byte}
use Rattle.letters.specs.Lists.{bytes}
use Rattle.refusals.specs.declared.Refusal.{Refusal}
use Rattle.refusals.specs.Refusals.{refuse_if}
use Rattle.code_record.specs.Record.{most_qubits, between, qubit_fault}
use Rattle.code_record.proofs.Limits.{between-bounds, bounds-between}
use Rattle.sheet.specs.Text.{laid, line, line_feed}
use Rattle.sheet.proofs.Laid.{sets-laid, set-laid, lent, back, back-laid}
use Rattle.sheet.proofs.Lengths.{length-letter_text, length-row_text}
use Rattle.sheet.proofs.WrittenText.{refuse_if-true, refuse_if-false, written-whole, Answers}
use Rattle.sheet.proofs.WrittenText.{answers-fault, answers-short, answers-whole}
use Rattle.letters_writer.proofs.Filled.{front-filled}
use Rattle.row_writer.specs.Lines.{letters_end, row_line_text, write_row, letters_line_text, write_letters}

-- ---- letters

-- The letters, which were filled in at the front, and the line feed behind them.
pub letters-ended : (n : ℕ) (P : Pauli) (buffer part : List ℕ) → n < length buffer
    → part ≡ letter_text (length (take n buffer)) P
    → set (part ++ drop n buffer) n 10 ≡ laid (letters_end n P) buffer
unfolding letters_end line_feed
letters-ended n P buffer part room q =
    ap (λ (bytes : List ℕ). set bytes n 10) (front-filled n P buffer part (omega arith) q)
    ∙ set-laid (letter_text n P) buffer n 10 (sym (length-letter_text n P)) room

-- ---- lines

-- A line's first bytes are stored, then the letters and the line feed are laid behind them.
pub front-laid : (front buffer part : List ℕ) (n : ℕ) (P : Pauli) → length front ≤ length buffer
    → part ≡ laid (letters_end n P) (lent (length front) (sets buffer 0 front))
    → back (length front) (sets buffer 0 front) part ≡ laid (front ++ letters_end n P) buffer
front-laid front buffer part n P room q =
    back-laid front (letters_end n P) buffer (sets buffer 0 front) part (length front) (sets-laid front buffer room)
    refl
    q

pub row-text : (key n : ℕ) (P : Pauli) → row_line_text key n P ≡ key ∷ 61 ∷ sign_byte (sign_of P) ∷ letters_end n P
unfolding row_line_text letters_end row_text
row-text key n P = refl

pub letters-text : (key n : ℕ) (P : Pauli) → letters_line_text key n P ≡ key ∷ 61 ∷ letters_end n P
unfolding letters_line_text
letters-text key n P = refl

-- The text of a key is its byte and `=`.
module _ (text : String) (key n : ℕ) (P : Pauli) (keyed : bytes text ≡ key ∷ 61 ∷ []) where
  pub row-keyed : row_line_text key n P ≡ line text (row_text n P)
  unfolding row_line_text line
  row-keyed = ap (λ (front : List ℕ). front ++ row_text n P ++ line_feed ∷ []) (sym keyed)

  pub letters-keyed : letters_line_text key n P ≡ line text (letter_text n P)
  unfolding letters_line_text letters_end line
  letters-keyed = ap (λ (front : List ℕ). front ++ letter_text n P ++ line_feed ∷ []) (sym keyed)

pub length-row_line_text : (key n : ℕ) (P : Pauli) → length (row_line_text key n P) ≡ n + 4
unfolding row_line_text
length-row_line_text key n P = simp length-append (omega (arith, length-row_text n P))

pub length-letters_line_text : (key n : ℕ) (P : Pauli) → length (letters_line_text key n P) ≡ n + 3
unfolding letters_line_text letters_end
length-letters_line_text key n P = simp length-append (omega (arith, length-letter_text n P))

-- ---- the calls

pub qubits-within : (n : ℕ) → 2 ≤ n → n ≤ most_qubits → qubit_fault n ≡ None
unfolding qubit_fault
qubits-within n low high = refuse_if-false _ (ap not (bounds-between 2 most_qubits n low high))

-- And what is known of n where it has no fault.
pub qubits-allowed : (n : ℕ) → None ≡ qubit_fault n → (2 ≤ n) × (n ≤ most_qubits)
unfolding qubit_fault refuse_if
qubits-allowed n h = between-bounds 2 most_qubits n (go (between 2 most_qubits n) h)
  where
    go : (within : Bool) → None ≡ cond (not within) (Some Refusal.RecordLimits) None → within ≡ true
    go true _ = refl
    go false h = absurd (none-some _ h)

-- What a caller with room is answered.
module _ (key n : ℕ) (P : Pauli) (buffer : List ℕ) (low : 2 ≤ n) (high : n ≤ most_qubits) where
  pub row-has-room : length (row_line_text key n P) ≤ length buffer → write_row key n P buffer
      ≡ record { answer = Ok (length (row_line_text key n P)); buffer = laid (row_line_text key n P) buffer }
  unfolding write_row
  row-has-room = written-whole _ _ (qubits-within n low high)

  pub letters-has-room : length (letters_line_text key n P) ≤ length buffer → write_letters key n P buffer
      ≡ record {
        answer = Ok (length (letters_line_text key n P));
        buffer = laid (letters_line_text key n P) buffer;
      }
  unfolding write_letters
  letters-has-room = written-whole _ _ (qubits-within n low high)

-- What the two calls have to answer, as their code tells it.
module _ (n : ℕ) (text buffer : List ℕ) where
  pub outside-limits : between 2 most_qubits n ≡ false
      → Answers (qubit_fault n) text buffer (Err Refusal.RecordLimits) buffer
  unfolding qubit_fault
  outside-limits h = answers-fault text buffer (refuse_if-true _ (ap not h))

  module _ (low : 2 ≤ n) (high : n ≤ most_qubits) where
    pub too_short : length buffer < length text
        → Answers (qubit_fault n) text buffer (Err Refusal.ShortBuffer) buffer
    too_short = answers-short text buffer (qubits-within n low high)

    pub has_room : length text ≤ length buffer → {count : ℕ} {after : List ℕ} → count ≡ length text
        → after ≡ laid text buffer → Answers (qubit_fault n) text buffer (Ok count) after
    has_room = answers-whole text buffer (qubits-within n low high)
