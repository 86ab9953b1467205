-- The lines of two numbers, and the call for them.
use Rattle.refusals.specs.declared.Refusal.{Refusal}
use Rattle.std.specs.Prelude.{None, Result}
use Rattle.std.specs.Prelude.{List, ◌++◌, ℕ}
use Rattle.sheet.specs.Text.{After, written}
use Rattle.number_writer.specs.Lines.{number_text}

-- RULES, "The sheet" and "The report": the lines of two numbers, by the bytes of their keys.
unfoldable pub numbers_text : List ℕ → ℕ → List ℕ → ℕ → List ℕ
numbers_text key m key' m' = number_text key m ++ number_text key' m'

-- RULES, "Calls and buffers": these lines by themselves, with any keys: 17, then the lines and their length.
unfoldable pub write_numbers : List ℕ → ℕ → List ℕ → ℕ → List ℕ → After (Result ℕ Refusal)
write_numbers key m key' m' buffer = written None (numbers_text key m key' m') buffer
