-- The tests of rows as the code makes them: the masks against a shifted one, rows that are put to +I, and the used
-- rows of a family place by place.
use mathlib.Core.Bool.{Bool, true, ◌&&◌}
use mathlib.Core.List.{List, [], ◌∷◌}
use mathlib.Core.Path.{◌≡◌, refl, ap, ◌∙◌}
use Prim.Native.Nat.{ℕ, zero, suc, ◌+◌, ◌-◌, ◌*◌, ◌%◌, ◌^◌, ◌<◌, ◌≤◌}
use native.Mathlib.Nat.{one-mul}
use native.Mathlib.Omega.{arith}
use native.Mathlib.Numerals.{add-one}
use lib.ListN.{length, take, drop, get_or, set}
use lib.Pow.{shl_exact}
use lib.Seq.{drop-cons}
use Rattle.pauli.specs.declared.Pauli.{Pauli}
use Rattle.letters.specs.Lists.{all_of}
use Rattle.pauli.specs.Product.{identity, same_pauli, same_masks, has_phase}
use Rattle.code_record.specs.Record.{most_qubits, is_row}
use Rattle.code_record.proofs.Limits.{all_first}
use Rattle.unused_rows.specs.Unused.{are_identities}

pub shifted_one : (n : ℕ) → n ≤ most_qubits → 1 * 2 ^ n % 4294967296 ≡ 2 ^ n
shifted_one n h = shl_exact 1 n 32 (omega arith) (omega arith) ∙ one-mul (2 ^ n)

-- An array with +I before a place.
abbrev pub idle : ℕ → List Pauli → List Pauli
idle zero rows = rows
idle (suc place) [] = []
idle (suc place) (P ∷ rows) = identity ∷ idle place rows

pub idle-read : (place : ℕ) (rows : List Pauli) → get_or (idle place rows) place identity ≡ get_or rows place identity
idle-read zero rows = refl
idle-read (suc place) [] = refl
idle-read (suc place) (P ∷ rows) = idle-read place rows

pub idle-more : (place : ℕ) (rows : List Pauli) → set (idle place rows) place identity ≡ idle (suc place) rows
idle-more zero [] = refl
idle-more zero (P ∷ rows) = refl
idle-more (suc place) [] = refl
idle-more (suc place) (P ∷ rows) = ap (λ l. identity ∷ l) (idle-more place rows)

pub idle-unused : (place : ℕ) (rows : List Pauli) → are_identities (idle place rows) ≡ are_identities (drop place rows)
unfolding same_pauli has_phase same_masks all_of
idle-unused zero rows = refl
idle-unused (suc place) [] = refl
idle-unused (suc place) (P ∷ rows) = idle-unused place rows

-- The first m rows, place by place.
module _ (n m place : ℕ) (rows : List Pauli) where
  pub row_at : place < length rows → place < m → {t : Bool} → is_row n (get_or rows place identity) ≡ t
      → all_of (is_row n) (take (m - place) (drop place rows))
      ≡ (t && all_of (is_row n) (take (m - (place + 1)) (drop (place + 1) rows)))
  row_at inside h test =
      let left : m - place ≡ suc (m - suc place) = omega arith in
      rw (left, add-one, drop-cons rows place identity, ← test)
      (all_first (is_row n) (get_or rows place identity) (take (m - suc place) (drop (suc place) rows)))

  pub no-row-left : m ≤ place → all_of (is_row n) (take (m - place) (drop place rows)) ≡ true
  unfolding all_of
  no-row-left h =
      let none : m - place ≡ 0 = omega arith in
      ap (λ (i : ℕ). all_of (is_row n) (take i (drop place rows))) none
