-- RULES, "Canonical generators": rows of the same signed group in reduced echelon form, their signs by the product
-- rule.
use Rattle.refusals.specs.declared.Refusal.{Refusal}
use Rattle.std.specs.Prelude.{Result}
use Rattle.std.specs.Prelude.{Bool, true, false, cond, ◌↔◌, ◌≢◌, ◌≡◌, ℕ, zero, suc, ◌+◌, ◌*◌, ◌%◌, ◌^◌, ◌<◌, eqb, ltb}
use Rattle.std.specs.Prelude.{length, get_or}
use mathlib.Core.List.{List, [], ◌∷◌, ◌++◌, map, foldl}
use Rattle.pauli.specs.declared.Pauli.{Pauli}
use Rattle.letters.specs.Lists.{all_of}
use Rattle.pauli.specs.Masks.{bits}
use Rattle.pauli.specs.Product.{identity, product, modulo4, same_masks}
use Rattle.code_record.specs.declared.Code.{Code}
use Rattle.code_record.specs.Record.{generators, is_row}
use Rattle.sheet.specs.Text.{After, written}
use Rattle.sheet.specs.Writer.{row_lines}
use Rattle.stabilizer.specs.Group.{InGroup}
use Rattle.stabilizer.specs.Checks.{group_fault}

-- A row read as bits a1..an, b1..bn; a column counts from 0.
unfoldable pub columns : ℕ → Pauli → List ℕ
columns n P = bits n P.a ++ bits n P.b

unfoldable pub column : ℕ → Pauli → ℕ → ℕ
column n P c = get_or (columns n P) c 0

unfoldable pub first_one : List ℕ → ℕ
first_one [] = zero
first_one (zero ∷ bs) = suc (first_one bs)
first_one (suc b ∷ bs) = zero

-- The column of a row's first one, its pivot; 2n where it has none.
unfoldable pub pivot : ℕ → Pauli → ℕ
pivot n P = first_one (columns n P)

-- ---- what canonical generators are

-- Each row has a first one, which stands alone in its column, and those columns rise.
pub record ReducedEchelon (n : ℕ) (rows : List Pauli) : Type 0 where
  pub has_one : (i : ℕ) → i < length rows → pivot n (get_or rows i identity) < 2 * n
  pub alone : (i j : ℕ) → i < length rows → j < length rows → i ≢ j
      → column n (get_or rows j identity) (pivot n (get_or rows i identity)) ≡ 0
  pub rise : (i j : ℕ) → i < j → j < length rows → pivot n (get_or rows i identity) < pivot n (get_or rows j identity)

-- Their phases are 0 to 3, so that one signed group can have one list of them.
pub record IsCanonical (n : ℕ) (rows canonical : List Pauli) : Type 0 where
  pub same_group : (P : Pauli) → InGroup rows P ↔ InGroup canonical P
  pub signed : all_of (is_row n) canonical ≡ true
  pub phases : map modulo4 canonical ≡ canonical
  pub echelon : ReducedEchelon n canonical

-- ---- the same as a function: rows are added one by one to a reduced list

-- A row with its one in the column of h's first one taken away, by the product rule.
unfoldable pub cleared : ℕ → Pauli → Pauli → Pauli
cleared n h P = cond (eqb (column n P (pivot n h)) 1) (product P h) P

unfoldable pub reduced : ℕ → List Pauli → Pauli → Pauli
reduced n hs P = foldl (λ Q h. cleared n h Q) P hs

-- Nothing but a phase is left of the row.
unfoldable pub reduces_to_identity : ℕ → List Pauli → Pauli → Bool
reduces_to_identity n hs P = same_masks (reduced n hs P) identity

-- What is left of the row, phase aside, as one number: its two masks side by side, each of 32 bits in a program. The
-- remainder makes it additive whatever the masks.
unfoldable pub side_by_side : ℕ → ℕ → ℕ
side_by_side a b = a % 2 ^ 32 + 2 ^ 32 * b

unfoldable pub remainder_word : ℕ → List Pauli → Pauli → ℕ
remainder_word n hs P = side_by_side (reduced n hs P).a (reduced n hs P).b

unfoldable pub insert_by_pivot : ℕ → Pauli → List Pauli → List Pauli
insert_by_pivot n Q [] = Q ∷ []
insert_by_pivot n Q (h ∷ hs) =
    elim (ltb (pivot n Q) (pivot n h)) [ true ↦ Q ∷ h ∷ hs | false ↦ h ∷ insert_by_pivot n Q hs ]

-- One row more: what is left of it, its phase 0 to 3. A row that reduces to I, phase aside, adds nothing.
unfoldable pub added : ℕ → List Pauli → Pauli → List Pauli
added n hs P =
    let Q = modulo4 (reduced n hs P) in cond (same_masks Q identity) hs (insert_by_pivot n Q (map (cleared n Q) hs))

unfoldable pub canonical_generators : ℕ → List Pauli → List Pauli
canonical_generators n rows = foldl (added n) [] rows

-- ---- the call

unfoldable pub canonical_text : Code → List ℕ
canonical_text c = row_lines "h=" c.n (canonical_generators c.n (generators c))

-- RULES, "Calls and buffers": 15, then 6 to 8 with the lines of the written sheet, then 17, then the `h=` lines.
unfoldable pub write_canonical : Code → List ℕ → After (Result ℕ Refusal)
write_canonical c buffer = written (group_fault c) (canonical_text c) buffer
