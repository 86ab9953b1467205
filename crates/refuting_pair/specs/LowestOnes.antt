-- A mask without its lowest ones. RULES, "Distance": qubit 1 is the lowest bit, so the first letters other than I stand
-- at the lowest ones of the masks together.
use Rattle.std.specs.Prelude.{ℕ, zero, suc, ◌-◌}
use Rattle.std.specs.Int.Bits.{bit_and}

-- Without the lowest one: what is subtracted turns it and the zeros below it about, and leaves the bits above.
unfoldable pub without_one : ℕ → ℕ
without_one m = bit_and m (m - 1)

-- Without k of them; 0 where there are no more.
unfoldable pub without_lowest : ℕ → ℕ → ℕ
without_lowest zero m = m
without_lowest (suc k) m = without_lowest k (without_one m)
