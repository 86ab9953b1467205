-- The line of a number, and the call for one by itself.
use Rattle.refusals.specs.declared.Refusal.{Refusal}
use Rattle.std.specs.Prelude.{None, Result}
use Rattle.std.specs.Prelude.{List, [], ◌∷◌, ◌++◌, ℕ}
use Rattle.sheet.specs.Text.{decimal, line_feed, After, written}

-- RULES, "The sheet": the line of a number, by the bytes of its key.
unfoldable pub number_text : List ℕ → ℕ → List ℕ
number_text key m = key ++ decimal m ++ line_feed ∷ []

-- RULES, "Calls and buffers": the line of a number by itself, with any key: 17, then the line and its length.
unfoldable pub write_number : List ℕ → ℕ → List ℕ → After (Result ℕ Refusal)
write_number key m buffer = written None (number_text key m) buffer
