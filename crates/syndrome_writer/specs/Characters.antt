-- The answers of the syndrome call with the count of characters beside them.
use Rattle.std.specs.Prelude.{Result, Ok, Err, ℕ}
use Rattle.refusals.specs.declared.Refusal.{Refusal}

-- RULES, "The library": a syndrome has r characters.
unfoldable pub characters_written : ℕ → Result Unit Refusal → Result ℕ Refusal
characters_written r (Ok _) = Ok r
characters_written r (Err refusal) = Err refusal
