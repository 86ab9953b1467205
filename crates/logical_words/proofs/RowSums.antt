-- The rows by the columns of their first ones: each row is added to the sum of its column, until all rows are passed.
use mathlib.Core.Bool.{cond}
use mathlib.Core.List.{List, ◌∷◌}
use mathlib.Core.Path.{◌≡◌, refl, ap, ap₂, sym, ◌∙◌}
use Prim.Native.Nat.{ℕ, zero, suc, ◌+◌, ◌<◌, ◌≤◌, min}
use native.Mathlib.Decide.{dec_lt, ℕ_discrete}
use native.Mathlib.Numerals.{add-one}
use native.Mathlib.Omega.{arith}
use borrow.Author.Tests.{eq-eqb, ne_eqb}
use lib.Bits.{bit_xor, xor_zero_r}
use lib.ListN.{length, take, drop, get_or, set, replicate, length-set, drop_of_length-le}
use lib.Seq.{take_all, drop-cons, get_or-set_same, get_or-set_other}
use Rattle.pauli.specs.declared.Pauli.{Pauli}
use Rattle.pauli.specs.Masks.{bits}
use Rattle.pauli.specs.Product.{identity}
use Rattle.stabilizer.specs.Canonical.{first_one, pivot}
use Rattle.stabilizer.proofs.Columns.{first_one-le, pivot-x, pivot-z}
use Rattle.code_record.specs.Record.{row_room}
use Rattle.reduced_rows.specs.declared.ReducedRows.{ReducedRows}
use Rattle.reduced_rows.specs.Rows.{rows_in}
use Rattle.logical_words.specs.Words.{mask_word, with_rows, begins_at, rows_at}

-- The rows that are counted, of an array that has room for no more.
pub counted : (hs : ReducedRows) (m : ℕ) → length hs.rows ≡ row_room → m ≡ min hs.count row_room
    → take m hs.rows ≡ rows_in hs
unfolding rows_in
counted hs m room e = elim (dec_lt row_room hs.count) [
  | yes more ↦
      take_all m hs.rows (omega arith) ∙ sym (take_all hs.count hs.rows (omega arith))
  | no few ↦ ap (λ (k : ℕ). take k hs.rows) (omega arith)
]

-- A row's first one has a place among the sums, and so has a row with none.
pub pivot-room : {at : ℕ} (h : Pauli) → at ≡ pivot 32 h → at < 65
pivot-room h begins = elim (dec_lt (first_one (bits 32 h.a)) 32) [
  | yes x ↦ omega (arith, pivot-x 32 h x)
  | no z ↦
      let none : first_one (bits 32 h.a) ≡ 32 = omega (arith, first_one-le 32 h.a) in
      omega (arith, pivot-z 32 h none, first_one-le 32 h.b)
]

-- The rows from a place on, added to the sums of their columns, make the sums of all rows.
pub record SumsFrom (rows : List Pauli) (place : ℕ) (sums : List ℕ) : Type 0 where
  pub long : length sums ≡ 65
  pub rest : (at : ℕ) → at < 65
      → with_rows (begins_at at) (drop place rows) (get_or sums at 0) ≡ rows_at rows at

zeros-at : (m at : ℕ) → ◌≡◌ {A = ℕ} (get_or (replicate m 0) at 0) 0
zeros-at zero at = refl
zeros-at (suc m) zero = refl
zeros-at (suc m) (suc at) = zeros-at m at

pub none-added : (rows : List Pauli) → SumsFrom rows 0 (replicate 65 0)
unfolding rows_at
none-added rows = record {
  long = refl;
  rest = λ at inside. ap (with_rows (begins_at at) rows) (zeros-at 65 at);
}

module _ {rows : List Pauli} {place : ℕ} {sums : List ℕ} (from : SumsFrom rows place sums) where
  pub one-more-added : place < length rows → {row : Pauli} → row ≡ get_or rows place identity → {at word : ℕ}
      → at ≡ pivot 32 row → word ≡ mask_word row
      → SumsFrom rows (place + 1) (set sums at (bit_xor (get_or sums at 0) word))
  unfolding with_rows
  one-more-added inside {row} stands {at} {word} begins own = record {
    long = length-set sums at (bit_xor (get_or sums at 0) word) ∙ from.long;
    rest = λ c within.
        ap (with_rows (begins_at c) (drop (place + 1) rows)) (here c)
        ∙ sym (ap (λ rest. with_rows (begins_at c) rest (get_or sums c 0)) next)
        ∙ from.rest c within;
  }
    where
      next : drop place rows ≡ row ∷ drop (place + 1) rows
      next = drop-cons rows place identity inside
          ∙ ap₂ (λ row rest. row ∷ rest) (sym stands) (ap (λ (i : ℕ). drop i rows) (sym (add-one place)))

      sum : ℕ
      sum = bit_xor (get_or sums at 0) word

      here : (c : ℕ)
          → get_or (set sums at sum) c 0 ≡ bit_xor (get_or sums c 0) (cond (begins_at c row) (mask_word row) 0)
      here c = elim (ℕ_discrete c at) [
        | yes same ↦
            ap (λ (i : ℕ). get_or (set sums at sum) i 0) same
            ∙ get_or-set_same sums at sum 0 (omega (arith, from.long, pivot-room row begins))
            ∙ ap₂ (λ (i w : ℕ). bit_xor (get_or sums i 0) w) (sym same) own
            ∙ ap (λ t. bit_xor (get_or sums c 0) (cond t (mask_word row) 0))
            (sym (eq-eqb (pivot 32 row) c (omega arith)))
        | no other ↦
            get_or-set_other sums at c sum 0 other ∙ sym (xor_zero_r (get_or sums c 0))
            ∙ ap (λ t. bit_xor (get_or sums c 0) (cond t (mask_word row) 0))
            (sym (ne_eqb (pivot 32 row) c (λ e. other (omega arith))))
      ]

  pub all-added : length rows ≤ place → (at : ℕ) → at < 65 → get_or sums at 0 ≡ rows_at rows at
  unfolding with_rows
  all-added end at inside =
      ap (λ rest. with_rows (begins_at at) rest (get_or sums at 0)) (sym (drop_of_length-le rows end))
      ∙ from.rest at inside
