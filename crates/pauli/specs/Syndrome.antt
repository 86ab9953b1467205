-- Syndromes: which rows a Pauli anticommutes with.
use Rattle.std.specs.Prelude.{Bool, cond, ℕ, ◌+◌, ◌*◌}
use Rattle.std.specs.Bool.{xor}
use mathlib.Core.List.{List, [], ◌∷◌, map, zip_with}
use Rattle.pauli.specs.declared.Pauli.{Pauli}
use Rattle.pauli.specs.Product.{anticommutes}

-- RULES, "Decoding": a bit for each row, in their order, 1 where the Pauli anticommutes with it.
unfoldable pub syndrome : List Pauli → Pauli → List Bool
syndrome rows P = map (λ g. anticommutes g P) rows

-- The sum of two syndromes, bit by bit.
unfoldable pub add_bits : List Bool → List Bool → List Bool
add_bits = zip_with xor

-- A list of bits as a mask, the first of them the lowest bit.
unfoldable pub mask_of_bits : List Bool → ℕ
mask_of_bits [] = 0
mask_of_bits (b ∷ bs) = cond b 1 0 + 2 * mask_of_bits bs

-- A syndrome as a mask: the first row has the lowest bit.
unfoldable pub syndrome_mask : List Pauli → Pauli → ℕ
syndrome_mask rows P = mask_of_bits (syndrome rows P)
