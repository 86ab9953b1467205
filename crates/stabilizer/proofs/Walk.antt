-- A check over the first rows of an array, row by row: what it finds from a place on is what it finds at that row, or
-- else from the next place on.
use Rattle.std.specs.Prelude.{Option, None}
use mathlib.Core.List.{List, [], ◌∷◌, ◌++◌}
use mathlib.Core.Logic.{◌⊎◌}
use mathlib.Core.Path.{◌≡◌, ap, ap₂, sym, ◌∙◌}
use Prim.Native.Nat.{ℕ, ◌+◌, ◌<◌, ◌≤◌}
use native.Mathlib.Numerals.{add-one}
use native.Mathlib.Omega.{arith}
use lib.ListN.{length, take, drop, get_or}
use lib.Seq.{take-suc}
use Rattle.pauli.specs.declared.Pauli.{Pauli}
use Rattle.pauli.specs.Product.{identity}
use Rattle.refusals.specs.declared.Refusal.{Refusal}
use Rattle.refusals.specs.Refusals.{◌then◌}
use Rattle.stabilizer.specs.Checks.{first_fault}
use Rattle.stabilizer.proofs.FirstRows.{taken_at, taken-end}

-- One row more.
pub taken_more : (rows : List Pauli) (place : ℕ) → place < length rows
    → take place rows ++ get_or rows place identity ∷ [] ≡ take (place + 1) rows
taken_more rows place inside = sym (take-suc rows place identity inside)
    ∙ ap (λ (i : ℕ). take i rows) (sym (add-one place))

module _ (check : List Pauli → ℕ → Pauli → Option Refusal) (rows : List Pauli) (count place at : ℕ) where
  -- What the check finds from a place on, where `at` is the line of the first row.
  abbrev pub Left : Option Refusal
  Left = first_fault check (take place rows) (at + place) (drop place (take count rows))

  pub fault-at : place < count → place < length rows
      → Left ≡ (check (take place rows) (at + place) (get_or rows place identity)
      then first_fault check (take (place + 1) rows) (at + (place + 1)) (drop (place + 1) (take count rows)))
  unfolding first_fault
  fault-at few inside =
      ap (first_fault check (take place rows) (at + place)) (taken_at rows count place few inside)
      ∙ ap₂ (λ before line. check (take place rows) (at + place)
      (get_or rows place identity) then first_fault check before line (drop (place + 1) (take count rows)))
      (taken_more rows place inside) (omega arith)

  pub fault-start : place ≡ 0 → Left ≡ first_fault check [] at (take count rows)
  fault-start first =
      ap (λ i. first_fault check (take i rows) (at + i) (drop i (take count rows))) first
      ∙ ap (λ i. first_fault check [] i (take count rows)) (omega arith)

  pub fault-end : (count ≤ place) ⊎ (length rows ≤ place) → Left ≡ None
  unfolding first_fault
  fault-end end = ap (first_fault check (take place rows) (at + place)) (taken-end rows count place end)
