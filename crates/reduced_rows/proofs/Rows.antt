-- Rows in an array: the value that has given rows, and what they leave of a row, one after the other.
use mathlib.Core.List.{List}
use mathlib.Core.Logic.{◌⊎◌}
use mathlib.Core.Path.{◌≡◌, refl, ap, sym}
use Prim.Native.Nat.{ℕ, ◌+◌, ◌<◌, ◌≤◌}
use lib.ListN.{length, drop, get_or}
use Rattle.pauli.specs.declared.Pauli.{Pauli}
use Rattle.pauli.specs.Product.{identity}
use Rattle.code_record.proofs.Filled.{take-filled}
use Rattle.code_record.specs.Record.{row_room}
use Rattle.stabilizer.specs.Canonical.{cleared, reduced}
use Rattle.reduced_rows.specs.declared.ReducedRows.{ReducedRows}
use Rattle.reduced_rows.specs.Rows.{rows_in, reduced_of}
use Rattle.stabilizer.proofs.FirstRows.{taken_at, taken-end}

abbrev pub value : ℕ → ℕ → List Pauli → ReducedRows
value n count rows = record { n = n; count = count; rows = rows }

pub rows_of : (n : ℕ) (rows : List Pauli) → rows_in (reduced_of n rows) ≡ rows
unfolding rows_in reduced_of
rows_of n rows = take-filled row_room rows (length rows) refl

-- ---- the rows one by one

module _ (hs : ReducedRows) (place : ℕ) where
  -- What is left is reduced by the row here, and then by those behind it.
  pub reduced-at : (n : ℕ) (P : Pauli) → place < hs.count → place < length hs.rows
      → reduced n (drop place (rows_in hs)) P
      ≡ reduced n (drop (place + 1) (rows_in hs)) (cleared n (get_or hs.rows place identity) P)
  unfolding reduced rows_in
  reduced-at n P few inside = ap (λ rows. reduced n rows P) (taken_at hs.rows hs.count place few inside)

  pub reduced-end : (n : ℕ) (P : Pauli) → (hs.count ≤ place) ⊎ (length hs.rows ≤ place)
      → P ≡ reduced n (drop place (rows_in hs)) P
  unfolding reduced rows_in
  reduced-end n P end = ap (λ rows. reduced n rows P) (sym (taken-end hs.rows hs.count place end))
