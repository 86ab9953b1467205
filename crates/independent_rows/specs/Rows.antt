-- The rows that an elimination adds.
use Rattle.std.specs.Prelude.{true, false, List, [], ◌∷◌, ℕ}
use Rattle.pauli.specs.declared.Pauli.{Pauli}
use Rattle.stabilizer.specs.Canonical.{reduces_to_identity, added}

-- The rows are added one by one to rows in reduced echelon form, up to the first of which these leave nothing but a
-- phase.
unfoldable pub independent_rows : ℕ → List Pauli → List Pauli → List Pauli
independent_rows n hs [] = hs
independent_rows n hs (P ∷ rows) =
    elim (reduces_to_identity n hs P) [ true ↦ hs | false ↦ independent_rows n (added n hs P) rows ]
