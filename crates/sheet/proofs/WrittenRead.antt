-- Reading what was written gives it back. Each reader reads the line that was written and leaves what stands behind it
-- (Line, Values), so the lines are read one after the other; and the rows read, with +I behind them, are the arrays of
-- the record with phases modulo 4 (Filled).
use mathlib.Core.Path.{◌≡◌, refl, ◌∙◌}
use mathlib.Core.Bool.{true, false}
use mathlib.Core.List.{List, [], ◌∷◌, ◌++◌, map, flat_map, append_assoc}
use Prim.Native.Nat.{ℕ, zero, suc, ◌+◌, ◌*◌, ◌%◌, ◌≤◌, ◌<◌}
use Prim.Native.String.{String}
use native.Mathlib.Omega.{arith}
use borrow.Author.Tests.{le-ltb, ne_eqb}
use lib.ListN.{length, length-map}
use Rattle.pauli.specs.declared.Pauli.{Pauli}
use Rattle.pauli.specs.Letters.{letter_text, row_text}
use Rattle.letters.specs.Lists.{all_of, bytes}
use Rattle.pauli.specs.Product.{modulo4}
use Rattle.code_record.specs.declared.Code.{Code}
use Rattle.refusals.specs.declared.Refusal.{Refusal}
use Rattle.code_record.specs.Record.{row_room, most_qubits, most_distance, longest_input}
use Rattle.code_record.specs.Record.{most_generators, pair_count, logical_count, generators_at, logicals_at, claim_at}
use Rattle.code_record.specs.Record.{first_generator_at, code_of, generators, logical_xs, logical_zs, is_row, is_claim}
use Rattle.code_record.specs.Record.{Sized}
use Rattle.code_record.proofs.Filled.{filled-returns}
use Rattle.code_record.proofs.Limits.{Limits, limits, all_cons, bounds-between}
use Rattle.sheet.specs.Reader.{got, done, continue, begins, read_number, read_letters, read_row, in_range}
use Rattle.sheet.specs.Reader.{qubit_digits, qubit_line, distance_line, row_line, rows_up_to, counted_generators}
use Rattle.sheet.specs.Reader.{generator_lines, counted_logicals, logical_lines, claim_line, lines_after}
use Rattle.sheet.specs.Reader.{sheet_lines, read_lines}
use Rattle.sheet.specs.Statements.{phases_modulo4, ReadAfterWrite}
use Rattle.sheet.specs.Text.{line_feed, line, decimal}
use Rattle.sheet.specs.Writer.{sheet_text, row_lines}
use Rattle.sheet.proofs.Lengths.{by_digits, length-decimal-one, length-letter_text, length-row_text}
use Rattle.sheet.proofs.Lengths.{length-generators, length-logical_xs, length-logical_zs}
use Rattle.sheet.proofs.Line.{line-begins, line-returns}
use Rattle.sheet.proofs.Values.{number_read, row_read, claim-read}

-- ---- numbers

-- The place of the line feed tells the number of digits.
width_read : (n : ℕ) (rest : List ℕ) → n < 100 → length (decimal n) ≡ qubit_digits (line "n=" (decimal n) ++ rest)
unfolding qubit_digits line bytes line_feed
width_read n rest high =
    by_digits (λ s. length s ≡ qubit_digits (line "n=" s ++ rest)) n high (λ one. refl)
    (λ two. rw (ne_eqb (48 + n % 10) 10 (omega arith)))

in-range-returns : (low high m : ℕ) (refusal : Refusal) (s : List ℕ) → low ≤ m → m ≤ high
    → in_range low high refusal m s ≡ got m s
unfolding in_range done
in-range-returns low high m refusal s hl hh = rw (bounds-between low high m hl hh)

qubit-line-returns : (n : ℕ) (rest : List ℕ) → 2 ≤ n → n ≤ most_qubits
    → qubit_line (line "n=" (decimal n) ++ rest) ≡ got n rest
unfolding qubit_line continue
qubit-line-returns n rest low high =
    let width = width_read n rest (omega arith) in
    let number = number_read n (omega arith) (omega arith) in
    rw (line-returns "n=" _ read_number (Refusal.Form 1) (decimal n) rest n width number)
    (in-range-returns 2 most_qubits n _ rest low high)

distance-line-returns : (d : ℕ) (rest : List ℕ) → 1 ≤ d → d ≤ most_distance
    → distance_line (line "d=" (decimal d) ++ rest) ≡ got d rest
unfolding distance_line continue
distance-line-returns d rest low high =
    let width = length-decimal-one d (omega arith) in
    let number = number_read d low (omega arith) in
    rw (line-returns "d=" 1 read_number (Refusal.Form 2) (decimal d) rest d width number)
    (in-range-returns 1 most_distance d _ rest low high)

-- ---- rows

row-line-returns : (key : String) (n at : ℕ) (P : Pauli) (rest : List ℕ) → is_row n P ≡ true
    → row_line key n at (line key (row_text n P) ++ rest) ≡ got (modulo4 P) rest
unfolding row_line
row-line-returns key n at P rest h = line-returns key (n + 1) read_row _ _ rest _ (length-row_text n P) (row_read n P h)

claim-line-returns : (n at : ℕ) (P : Pauli) (rest : List ℕ) → is_claim n P ≡ true
    → claim_line n at (line "w=" (letter_text n P) ++ rest) ≡ got (modulo4 P) rest
unfolding claim_line
claim-line-returns n at P rest h = line-returns "w=" n read_letters _ _ rest _ (length-letter_text n P)
    (claim-read n P h)

-- Rows are read back, where as many were written as are read, or what stands behind them does not begin with their key.
rows-return : (most : ℕ) (key : String) (n at : ℕ) (rows : List Pauli) (rest : List ℕ) → all_of (is_row n) rows ≡ true
    → length rows ≤ most → (length rows < most → begins (bytes key) rest ≡ false)
    → rows_up_to most key n at (row_lines key n rows ++ rest) ≡ got (map modulo4 rows) rest
unfolding rows_up_to row_lines flat_map continue done
rows-return zero key n at [] rest all few end = refl
rows-return zero key n at (P ∷ rows) rest all few end = absurd (omega arith)
rows-return (suc most) key n at [] rest all few end = rw (end (omega arith))
rows-return (suc most) key n at (P ∷ rows) rest all few end =
    let h = all_cons (is_row n) P rows all in
    rw (
      append_assoc,
      line-begins key (row_text n P) _,
      row-line-returns key n at P _ h.0,
      rows-return most key n (at + 1) rows rest h.1 (omega arith) (λ fewer. end (omega arith)),
    )

generators-return : (n at : ℕ) (rows : List Pauli) (rest : List ℕ) → all_of (is_row n) rows ≡ true → 1 ≤ length rows
    → length rows ≤ most_generators n → begins (bytes "g=") rest ≡ false
    → generator_lines n at (row_lines "g=" n rows ++ rest) ≡ got (map modulo4 rows) rest
unfolding generator_lines counted_generators continue
generators-return n at rows rest all some few end =
    rw (
      rows-return (most_generators n) "g=" n at rows rest all few (λ fewer. end),
      length-map rows modulo4,
      ne_eqb (length rows) 0 (omega arith),
      end,
    )

logicals-return : (k : ℕ) (key : String) (n at : ℕ) (rows : List Pauli) (rest : List ℕ) → all_of (is_row n) rows ≡ true
    → length rows ≡ k → logical_lines k key n at (row_lines key n rows ++ rest) ≡ got (map modulo4 rows) rest
unfolding logical_lines counted_logicals continue
logicals-return k key n at rows rest all count =
    rw (
      rows-return k key n at rows rest all (omega arith) (λ fewer. absurd (omega arith)),
      length-map rows modulo4,
      le-ltb (length rows) k (omega arith),
    )

-- Lines of X logicals do not begin as lines of generators do.
no-generator-line : (n : ℕ) (rows : List Pauli) (rest : List ℕ) → 1 ≤ length rows
    → begins (bytes "g=") (row_lines "x=" n rows ++ rest) ≡ false
unfolding row_lines flat_map line bytes begins
no-generator-line n [] rest h = absurd (omega arith)
no-generator-line n (P ∷ rows) rest h = refl

-- ---- the sheet

-- A sheet's lines, and what stands behind it.
sheet-then : (c : Code) (rest : List ℕ)
    → sheet_text c ++ rest
    ≡ line "n=" (decimal c.n) ++ (line "d=" (decimal c.d) ++ (row_lines "g=" c.n (generators c)
    ++ (row_lines "x=" c.n (logical_xs c) ++ (row_lines "z=" c.n (logical_zs c)
    ++ (line "w=" (letter_text c.n c.w) ++ rest)))))
unfolding sheet_text
sheet-then c rest = simp append_assoc

module _ (c : Code) (sized : Sized c) (within : Limits c) where
  rows-read : length (map modulo4 (generators c)) ≡ c.r
  rows-read = length-map (generators c) modulo4 ∙ length-generators c sized within

  record-returns :
      code_of c.n c.d (map modulo4 (generators c)) (map modulo4 (logical_xs c)) (map modulo4 (logical_zs c))
      (modulo4 c.w)
      ≡ phases_modulo4 c
  unfolding code_of phases_modulo4 generators logical_xs logical_zs
  record-returns =
      rw (
        rows-read,
        filled-returns row_room c.r c.g sized.room_g within.generator_rows.unused,
        filled-returns row_room (logical_count c) c.x sized.room_x within.x_rows.unused,
        filled-returns row_room (logical_count c) c.z sized.room_z within.z_rows.unused,
      )

  lines-after-return : (at : ℕ) (rest : List ℕ)
      → lines_after c.n c.d at (map modulo4 (generators c))
      (row_lines "x=" c.n (logical_xs c) ++ (row_lines "z=" c.n (logical_zs c)
      ++ (line "w=" (letter_text c.n c.w) ++ rest)))
      ≡ got (record { code = phases_modulo4 c; claim_at = at + 2 * logical_count c }) rest
  unfolding lines_after continue done logical_xs logical_zs logical_count
  lines-after-return at rest =
      rw (
        rows-read,
        logicals-return _ "x=" c.n _ (logical_xs c) _ within.x_rows.used (length-logical_xs c sized within),
        logicals-return _ "z=" c.n _ (logical_zs c) _ within.z_rows.used (length-logical_zs c sized within),
        claim-line-returns c.n _ c.w rest within.claim,
        record-returns,
      )

  sheet-lines-return : (rest : List ℕ)
      → sheet_lines (sheet_text c ++ rest) ≡ got (record { code = phases_modulo4 c; claim_at = claim_at c }) rest
  unfolding sheet_lines continue generators most_generators logical_count pair_count claim_at logicals_at generators_at
  sheet-lines-return rest =
      let r = length-generators c sized within in
      let k = length-logical_xs c sized within in
      let after-x = row_lines "z=" c.n (logical_zs c) ++ (line "w=" (letter_text c.n c.w) ++ rest) in
      rw (
        sheet-then c rest,
        qubit-line-returns c.n _ (omega arith) (omega arith),
        distance-line-returns c.d _ (omega arith) (omega arith),
        generators-return c.n _ (generators c) _ within.generator_rows.used (omega arith) (omega arith)
            (no-generator-line c.n (logical_xs c) after-x (omega arith)),
        rows-read,
      )
      (lines-after-return (first_generator_at + c.r) rest)

pub read-after-write : ReadAfterWrite
unfolding read_lines
read-after-write c rest sized within few =
    rw (le-ltb longest_input (length (sheet_text c ++ rest)) few) (sheet-lines-return c sized (limits c within) rest)
