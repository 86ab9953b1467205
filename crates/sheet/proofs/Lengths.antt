-- How many bytes a sheet's lines and texts have. A line has its key, its value and a line feed; the digits of a number
-- are those of its tenth and one more, so a number below 100 has one or two; rows of n qubits have lines of one length.
-- A sheet's text has the sum of its lines, which is largest at n = 24, r = 1.
use mathlib.Core.Path.{◌≡◌, ap, ◌∙◌}
use mathlib.Core.Bool.{Bool, true, false, cond}
use mathlib.Core.List.{List, [], ◌∷◌, ◌++◌, flat_map}
use Prim.Native.Nat.{ℕ, zero, suc, ◌+◌, ◌-◌, ◌*◌, ◌/◌, ◌%◌, ◌≤◌, ◌<◌}
use Prim.Native.Char.{code}
use Prim.Native.String.{String}
use native.Mathlib.Decide.{dec_lt}
use native.Mathlib.Nat.{mul-le-mul}
use native.Mathlib.Omega.{arith}
use borrow.Author.Tests.{lt-ltb, le-ltb}
use lib.Dec.{ltb, lit≤}
use lib.ListN.{length, length-append, length-map}
use lib.Seq.{length-take-le}
use Rattle.pauli.specs.declared.Pauli.{Pauli}
use Rattle.pauli.specs.Letters.{letter_text, row_text}
use Rattle.letters.specs.Lists.{bytes}
use Rattle.pauli.proofs.Letters.{length-letters_of}
use Rattle.code_record.specs.declared.Code.{Code}
use Rattle.code_record.specs.Record.{most_qubits, pair_count, logical_count, within_limits}
use Rattle.code_record.specs.Record.{generators, logical_xs, logical_zs, Sized}
use Rattle.code_record.proofs.Limits.{Limits, limits}
use Rattle.sheet.specs.Statements.{longest_sheet}
use Rattle.sheet.specs.Text.{line, digits_of, decimal}
use Rattle.sheet.specs.Writer.{row_lines, sheet_text}

-- ---- numbers

digits_of-one : (k m : ℕ) → m < 10 → digits_of (suc k) m ≡ (code "0" + m) ∷ []
unfolding digits_of
digits_of-one k m h = rw (lt-ltb m 10 h, digits_of)

digits_of-snoc : (k m : ℕ) → 10 ≤ m → digits_of (suc k) m ≡ digits_of k (m / 10) ++ (code "0" + m % 10) ∷ []
unfolding digits_of
digits_of-snoc k m h = rw (le-ltb m 10 h, digits_of)

-- Enough room for the digits of a number is as good as more.
digits_of-room : (k l m : ℕ) → m < k → m < l → digits_of k m ≡ digits_of l m
digits_of-room zero l m hk hl = absurd (omega arith)
digits_of-room (suc k) zero m hk hl = absurd (omega arith)
digits_of-room (suc k) (suc l) m hk hl = elim (dec_lt m 10) [
  | yes h ↦ rw (digits_of-one k m h, digits_of-one l m h)
  | no h ↦
      rw (
        digits_of-snoc k m (omega arith),
        digits_of-snoc l m (omega arith),
        digits_of-room k l (m / 10) (omega arith) (omega arith),
      )
]

pub decimal-one : (m : ℕ) → m < 10 → decimal m ≡ (code "0" + m) ∷ []
unfolding decimal
decimal-one m h = digits_of-one m m h

pub decimal-snoc : (m : ℕ) → 10 ≤ m → decimal m ≡ decimal (m / 10) ++ (code "0" + m % 10) ∷ []
unfolding decimal
decimal-snoc m h = digits_of-snoc m m h ∙ rw (digits_of-room m (suc (m / 10)) (m / 10) (omega arith) (omega arith))

pub decimal-two : (m : ℕ) → 10 ≤ m → m < 100 → decimal m ≡ (code "0" + m / 10) ∷ (code "0" + m % 10) ∷ []
decimal-two m low high = decimal-snoc m low ∙ rw (decimal-one (m / 10) (omega arith))

-- A number below 100 is written with one digit or with two.
pub by_digits : (F : List ℕ → Type 0) (m : ℕ) → m < 100 → (m < 10 → F ((code "0" + m) ∷ []))
    → (10 ≤ m → F ((code "0" + m / 10) ∷ (code "0" + m % 10) ∷ [])) → F (decimal m)
by_digits F m high one two = elim (dec_lt m 10) [
  | yes h ↦ rw (decimal-one m h) (one h)
  | no h ↦ let low : 10 ≤ m = omega arith in rw (decimal-two m low high) (two low)
]

pub length-decimal-one : (m : ℕ) → m < 10 → length (decimal m) ≡ 1
length-decimal-one m h = ap length (decimal-one m h)

-- ---- lines

pub length-line : (key : String) (value : List ℕ) → length (line key value) ≡ length (bytes key) + length value + 1
unfolding line
length-line key value = simp length-append

-- ---- rows

pub length-letter_text : (n : ℕ) (P : Pauli) → length (letter_text n P) ≡ n
unfolding letter_text
length-letter_text n P = simp (length-map, length-letters_of)

pub length-row_text : (n : ℕ) (P : Pauli) → length (row_text n P) ≡ n + 1
unfolding row_text
length-row_text n P = omega (arith, length-letter_text n P)

pub length-row_line : (key : String) (n : ℕ) (P : Pauli) → length (bytes key) ≡ 2
    → length (line key (row_text n P)) ≡ n + 4
length-row_line key n P two = omega (arith, length-line key (row_text n P), length-row_text n P)

pub length-row_lines : (key : String) (n : ℕ) (rows : List Pauli) → length (bytes key) ≡ 2
    → length (row_lines key n rows) ≡ length rows * (n + 4)
unfolding row_lines flat_map
length-row_lines key n [] two = omega arith
length-row_lines key n (P ∷ rows) two =
    simp length-append (omega (arith, length-row_line key n P two, length-row_lines key n rows two))

-- ---- the sheet

length-qubit_line : (n : ℕ) → n < 100 → length (line "n=" (decimal n)) ≡ cond (ltb n 10) 4 5
unfolding bytes
length-qubit_line n h =
    rw length-line
    (by_digits (λ s. 2 + length s + 1 ≡ cond (ltb n 10) 4 5) n h (λ one. rw (lt-ltb n 10 one))
    (λ two. rw (le-ltb n 10 two)))

-- The n line has 4 bytes or 5, the d line 4, each of the rows n + 4, the w line n + 3.
unfoldable pub sheet_length : (n r : ℕ) → ℕ
sheet_length n r = cond (ltb n 10) 4 5 + 4 + (r + 2 * pair_count n r) * (n + 4) + (n + 3)

module _ (c : Code) (sized : Sized c) (within : Limits c) where
  pub length-generators : length (generators c) ≡ c.r
  unfolding generators
  length-generators = length-take-le c.r c.g (omega arith)

  pub length-logical_xs : length (logical_xs c) ≡ logical_count c
  unfolding logical_xs logical_count pair_count
  length-logical_xs = length-take-le (logical_count c) c.x (omega arith)

  pub length-logical_zs : length (logical_zs c) ≡ logical_count c
  unfolding logical_zs logical_count pair_count
  length-logical_zs = length-take-le (logical_count c) c.z (omega arith)

pub length-sheet_text : (c : Code) → Sized c → within_limits c ≡ true → length (sheet_text c) ≡ sheet_length c.n c.r
unfolding sheet_text bytes sheet_length logical_count
length-sheet_text c sized h =
    let within = limits c h in
    let first = length-qubit_line c.n (omega arith) in
    let second = length-decimal-one c.d (omega arith) in
    simp (
      length-append,
      length-line,
      length-row_lines,
      length-letter_text,
      length-generators c sized within,
      length-logical_xs c sized within,
      length-logical_zs c sized within,
    )
    (omega (arith, length-line "n=" (decimal c.n)))

sheet_length-le : (n r : ℕ) → 1 ≤ r → r < n → n ≤ most_qubits → sheet_length n r ≤ longest_sheet
unfolding sheet_length pair_count
sheet_length-le n r some few most =
    let rows : (r + 2 * (n - r)) * (n + 4) ≤ 47 * 28 = mul-le-mul {n₂ = 47} {m₂ = 28} (omega arith) (omega arith) in
    omega (arith, digits (ltb n 10))
  where
    digits : (small : Bool) → cond small 4 5 ≤ 5
    digits true = lit≤ tt
    digits false = lit≤ tt

-- No sheet within limits is longer than the longest.
pub sheet_text-le : (c : Code) → Sized c → within_limits c ≡ true → length (sheet_text c) ≤ longest_sheet
sheet_text-le c sized within =
    let l = limits c within in
    rw (length-sheet_text c sized within) (sheet_length-le c.n c.r (omega arith) (omega arith) (omega arith))
