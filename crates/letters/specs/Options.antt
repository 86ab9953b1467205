-- What follows a value, where there is one.
use Rattle.std.specs.Prelude.{Option, Some, None}

unfoldable pub bind : {A B : Type 0} → Option A → (A → Option B) → Option B
bind None next = None
bind (Some a) next = next a
