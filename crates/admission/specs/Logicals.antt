-- The checks of the x and z rows, 9 and 10.
use Rattle.std.specs.Prelude.{Option}
use Rattle.std.specs.Prelude.{Bool, false, cond, ◌||◌, List, [], ◌∷◌, ◌++◌, ℕ, suc, ◌+◌, eqb, ltb, length}
use Rattle.pauli.specs.declared.Pauli.{Pauli}
use Rattle.letters.specs.Lists.{any_of}
use Rattle.pauli.specs.Product.{commutes, anticommutes}
use Rattle.code_record.specs.declared.Code.{Code}
use Rattle.refusals.specs.declared.Family.{Family}
use Rattle.refusals.specs.declared.Refusal.{Refusal}
use Rattle.code_record.specs.Record.{generators, logical_count, logical_xs, logical_zs, logicals_at}
use Rattle.refusals.specs.Refusals.{refuse_if}
use Rattle.stabilizer.specs.Checks.{first_fault}

-- The x rows, then the z rows, as their lines follow each other. The rows before one tell its place, and so its family.
unfoldable pub logicals : Code → List Pauli
logicals c = logical_xs c ++ logical_zs c

-- The family of the logical at a place, which counts from 0, among k pairs.
unfoldable pub family_at : ℕ → ℕ → Family
family_at k place = cond (ltb place k) Family.LogicalX Family.LogicalZ

unfoldable pub family_after : ℕ → List Pauli → Family
family_after k before = family_at k (length before)

-- RULES, "Admission": 9 where a logical anticommutes with a generator.
unfoldable pub detected : Code → List Pauli → ℕ → Pauli → Option Refusal
detected c before at P =
    refuse_if (any_of (anticommutes P) (generators c))
    (Refusal.LogicalAnticommutes at (family_after (logical_count c) before))

-- RULES, "Admission": partners anticommute, other logicals commute. Whether one of the earlier rows, at the places
-- j, j + 1, .., pairs wrongly with the row P at the place m: its partner stands k places before it.
unfoldable pub pairs_wrongly : ℕ → ℕ → ℕ → List Pauli → Pauli → Bool
pairs_wrongly k m j [] P = false
pairs_wrongly k m j (Q ∷ earlier) P =
    cond (eqb m (j + k)) (commutes P Q) (anticommutes P Q) || pairs_wrongly k m (suc j) earlier P

-- RULES, "Admission": 10 where a logical pairs wrongly with an earlier one.
unfoldable pub mispaired : Code → List Pauli → ℕ → Pauli → Option Refusal
mispaired c before at P =
    refuse_if (pairs_wrongly (logical_count c) (length before) 0 before P)
    (Refusal.LogicalPairing at (family_after (logical_count c) before))

-- 9 and 10, each over all x and z rows.
unfoldable pub detected_fault : Code → Option Refusal
detected_fault c = first_fault (detected c) [] (logicals_at c) (logicals c)

unfoldable pub pairing_fault : Code → Option Refusal
pairing_fault c = first_fault (mispaired c) [] (logicals_at c) (logicals c)
