-- The value of a line, with a line feed behind it.
use Rattle.std.specs.Prelude.{Option, None}
use Rattle.std.specs.Prelude.{cond, List, ℕ, ◌+◌, eqb, take, drop, get_or}
use Rattle.sheet.specs.Text.{line_feed}

-- The key that bytes begin with, whatever it is: one byte and `=`.
unfoldable pub key_of : List ℕ → List ℕ
key_of s = take 2 s

-- RULES, "The sheet": a line ends with a line feed. The value of the m bytes from a place on, with one behind them.
unfoldable pub value_from : {A : Type 0} → ℕ → ℕ → (List ℕ → Option A) → List ℕ → Option A
value_from from m read s = cond (eqb (get_or s (m + from) 0) line_feed) (read (take m (drop from s))) None
