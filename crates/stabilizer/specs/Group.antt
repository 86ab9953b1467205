-- RULES, "Admission": the group of a list of rows is all products of a selection of them; the empty one gives I.
use Rattle.std.specs.Prelude.{Option, Some, None}
use Rattle.std.specs.Prelude.{Bool, true, false, cond, List, [], ◌∷◌, ◌++◌, map, ◌≡◌}
use Rattle.pauli.specs.declared.Pauli.{Pauli}
use Rattle.letters.specs.declared.Sign.{Sign}
use Rattle.letters.specs.declared.Sign.TheVariants.{Plus, Minus}
use Rattle.pauli.specs.Letters.{row_of}
use Rattle.letters.specs.Lists.{any_of}
use Rattle.pauli.specs.Product.{identity, product, same_masks, same_pauli}

-- The product of a selection of the rows, in their order: `true` takes a row, and rows past the selection are not
-- taken.
unfoldable pub product_of : List Bool → List Pauli → Pauli
product_of [] rows = identity
product_of (b ∷ bs) [] = identity
product_of (true ∷ bs) (g ∷ rows) = product g (product_of bs rows)
product_of (false ∷ bs) (g ∷ rows) = product_of bs rows

-- A member of the group: some selection's product.
unfoldable pub InGroup : List Pauli → Pauli → Type 0
InGroup rows P = (selection : List Bool) × (same_pauli (product_of selection rows) P ≡ true)

-- A member, phase aside.
unfoldable pub InGroupUpToPhase : List Pauli → Pauli → Type 0
InGroupUpToPhase rows P = (selection : List Bool) × (same_masks (product_of selection rows) P ≡ true)

-- The group as a list: the products of all selections.
unfoldable pub group : List Pauli → List Pauli
group [] = identity ∷ []
group (g ∷ rows) = let rest = group rows in rest ++ map (product g) rest

-- The test for a member, phase aside.
unfoldable pub in_group_up_to_phase : List Pauli → Pauli → Bool
in_group_up_to_phase rows P = any_of (same_masks P) (group rows)

-- The signed row with P's masks is a member.
unfoldable pub row_in_group : List Pauli → Sign → Pauli → Bool
row_in_group rows sign P = any_of (same_pauli (row_of sign P.a P.b)) (group rows)

-- The sign of the member that has P's masks, where there is one. For rows that pass 6 to 8 there is one at most.
unfoldable pub member_sign : List Pauli → Pauli → Option Sign
member_sign rows P = cond (row_in_group rows Plus P) (Some Plus) (cond (row_in_group rows Minus P) (Some Minus) None)
