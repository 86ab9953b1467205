-- Masks. An n-bit mask is a number below 2^n, and qubit j is its bit j - 1.
use Rattle.std.specs.Prelude.{List, [], ◌∷◌, ℕ, zero, suc, ◌+◌, ◌/◌, ◌%◌}
use Rattle.std.specs.Int.Bits.{bit_and}

-- The ones among the lowest k bits of a mask. It ends once the rest of the mask is 0, so it takes as many steps as the
-- mask has binary digits.
unfoldable pub ones_among : ℕ → ℕ → ℕ
ones_among zero m = 0
ones_among (suc k) zero = 0
ones_among (suc k) (suc m) = suc m % 2 + ones_among k (suc m / 2)

-- The count of a mask's ones. The library's `ones` is the same number (proofs/Masks.antt).
unfoldable pub count_ones : ℕ → ℕ
count_ones m = ones_among m m

-- RULES, "Paulis": a·b counts the qubits at which both masks have a one.
unfoldable pub dot : ℕ → ℕ → ℕ
dot a b = count_ones (bit_and a b)

-- The n bits of a mask, qubit 1 first.
unfoldable pub bits : ℕ → ℕ → List ℕ
bits zero m = []
bits (suc n) m = m % 2 ∷ bits n (m / 2)
