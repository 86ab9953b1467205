-- The lines of rows, one behind the other: their text, row by row, and their length. And what the call answers.
use Rattle.std.specs.Prelude.{Ok}
use mathlib.Core.List.{List, [], ◌∷◌, ◌++◌, flat_map, append-nil, append_assoc}
use mathlib.Core.Path.{◌≡◌, ap, sym, ◌∙◌}
use Prim.Native.Nat.{ℕ, ◌+◌, ◌*◌, ◌≤◌, ◌<◌, min}
use Prim.Native.String.{String}
use native.Mathlib.Decide.{dec_le}
use native.Mathlib.Nat.{mul-le-mul_right}
use native.Mathlib.Numerals.{add-one}
use native.Mathlib.Omega.{arith}
use lib.ListN.{length, take, get_or, length-append}
use lib.Seq.{take_all, take-suc, length-take-le}
use Rattle.pauli.specs.declared.Pauli.{Pauli}
use Rattle.pauli.specs.Letters.{row_text}
use Rattle.letters.specs.Lists.{bytes}
use Rattle.pauli.specs.Product.{identity}
use Rattle.code_record.specs.Record.{most_qubits}
use Rattle.sheet.specs.Text.{line, line_feed, laid}
use Rattle.sheet.specs.Writer.{row_lines}
use Rattle.sheet.proofs.WrittenText.{written-whole}
use Rattle.row_writer.specs.Lines.{row_line_text}
use Rattle.row_writer.proofs.Lines.{length-row_line_text, qubits-within}
use Rattle.rows_writer.specs.Rows.{rows_text, write_rows}

-- The text of a key is its byte and `=`.
pub rows-keyed : (text : String) (key n : ℕ) (rows : List Pauli) → bytes text ≡ key ∷ 61 ∷ []
    → rows_text key n rows ≡ row_lines text n rows
unfolding rows_text row_lines row_line_text line
rows-keyed text key n rows keyed =
    ap (λ (front : List ℕ). flat_map (λ P. front ++ row_text n P ++ line_feed ∷ []) rows) (sym keyed)

module _ (key n : ℕ) where
  rows_more : (rows : List Pauli) (P : Pauli)
      → rows_text key n (rows ++ P ∷ []) ≡ rows_text key n rows ++ row_line_text key n P
  unfolding rows_text flat_map
  rows_more [] P = append-nil (row_line_text key n P)
  rows_more (Q ∷ rows) P =
      ap (λ (s : List ℕ). row_line_text key n Q ++ s) (rows_more rows P)
      ∙ sym (append_assoc (row_line_text key n Q) (rows_text key n rows) (row_line_text key n P))

  length-rows_text : (rows : List Pauli) → length (rows_text key n rows) ≡ length rows * (n + 4)
  unfolding rows_text flat_map
  length-rows_text [] = omega arith
  length-rows_text (P ∷ rows) =
      simp length-append (omega (arith, length-row_line_text key n P, length-rows_text rows))

  -- The lines of the first rows of a list.
  module _ (rows : List Pauli) where
    pub first_more : (place : ℕ) → place < length rows
        → rows_text key n (take place rows) ++ row_line_text key n (get_or rows place identity)
        ≡ rows_text key n (take (place + 1) rows)
    first_more place h =
        sym (rows_more (take place rows) _)
        ∙ ap (rows_text key n) (sym (take-suc rows place identity h)
        ∙ ap (λ (k : ℕ). take k rows) (sym (add-one place)))

    length-first : (count : ℕ) → count ≤ length rows → length (rows_text key n (take count rows)) ≡ count * (n + 4)
    length-first count h =
        length-rows_text (take count rows) ∙ ap (λ (k : ℕ). k * (n + 4)) (length-take-le count rows h)

    pub first-room : (place : ℕ) → place < length rows
        → length (rows_text key n (take place rows)) + (n + 4) ≤ length (rows_text key n rows)
    first-room place h =
        let grown : (place + 1) * (n + 4) ≤ length rows * (n + 4) = mul-le-mul_right (n + 4) (omega arith) in
        omega (arith, length-first place (omega arith), length-rows_text rows)

-- The rows that there are in an array, where so many are asked for.
module _ (rows : List Pauli) (places : ℕ) (sized : length rows ≡ places) (count : ℕ) where
  pub take-there : take (min count places) rows ≡ take count rows
  take-there = elim (dec_le count places) [
    | yes few ↦ let all : min count places ≡ count = omega arith in ap (λ (k : ℕ). take k rows) all
    | no many ↦ take_all (min count places) rows (omega arith) ∙ sym (take_all count rows (omega arith))
  ]

  pub length-there : (key n : ℕ) → length (rows_text key n (take count rows)) ≡ min count places * (n + 4)
  length-there key n =
      ap (λ (shown : List Pauli). length (rows_text key n shown)) (sym take-there)
      ∙ length-first key n rows (min count places) (omega arith)

-- What a caller with room is answered.
pub rows-has-room : (key n : ℕ) (rows : List Pauli) (buffer : List ℕ) → 2 ≤ n → n ≤ most_qubits
    → length (rows_text key n rows) ≤ length buffer → write_rows key n rows buffer
    ≡ record { answer = Ok (length (rows_text key n rows)); buffer = laid (rows_text key n rows) buffer }
unfolding write_rows
rows-has-room key n rows buffer low high = written-whole _ _ (qubits-within n low high)
