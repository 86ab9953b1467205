-- The checks of the generators: 6, then 7 and 8 together.
use Rattle.std.specs.Prelude.{Option, None}
use Rattle.std.specs.Prelude.{List, [], ◌∷◌, ◌++◌, map, ℕ, ◌+◌}
use Rattle.pauli.specs.declared.Pauli.{Pauli}
use Rattle.letters.specs.Lists.{any_of}
use Rattle.pauli.specs.Product.{identity, product, anticommutes, same_pauli}
use Rattle.code_record.specs.declared.Code.{Code}
use Rattle.refusals.specs.declared.Family.{Family}
use Rattle.refusals.specs.declared.Refusal.{Refusal}
use Rattle.code_record.specs.Record.{generators, generators_at, limits_fault}
use Rattle.refusals.specs.Refusals.{◌then◌, refuse_if}
use Rattle.stabilizer.specs.Group.{group}

-- A check over all its rows, in order, from the line `at` on. It sees the rows before each row, that row's line, and
-- the row.
unfoldable pub first_fault : (List Pauli → ℕ → Pauli → Option Refusal) → List Pauli → ℕ → List Pauli → Option Refusal
first_fault check before at [] = None
first_fault check before at (P ∷ rows) =
    let later = first_fault check (before ++ P ∷ []) (at + 1) rows in check before at P then later

-- -I
unfoldable pub minus_identity : Pauli
minus_identity = record { p = 2; a = 0; b = 0 }

-- RULES, "Refusals": 6, the row anticommutes with an earlier one.
unfoldable pub clash : List Pauli → ℕ → Pauli → Option Refusal
clash before at P = refuse_if (any_of (anticommutes P) before) (Refusal.GeneratorsAnticommute at Family.Generator)

-- RULES, "Refusals": the row times the product of a selection of earlier rows is -I (7), or +I (8).
unfoldable pub dependence : List Pauli → ℕ → Pauli → Option Refusal
dependence before at P =
    let products = map (product P) (group before) in
    refuse_if (any_of (same_pauli minus_identity) products) (Refusal.MinusIdentity at Family.Generator)
    then refuse_if (any_of (same_pauli identity) products) (Refusal.DependentGenerator at Family.Generator)

-- RULES, "Refusals": 6 runs over all rows, then 7 and 8 together. `at` is the line of the first row.
unfoldable pub generator_fault : ℕ → List Pauli → Option Refusal
generator_fault at rows = first_fault clash [] at rows then first_fault dependence [] at rows

-- RULES, "Calls and buffers": a call on the group of a record checks 15, then 6 to 8 with the lines of its written
-- sheet.
unfoldable pub group_fault : Code → Option Refusal
group_fault c = limits_fault c then generator_fault (generators_at c) (generators c)
