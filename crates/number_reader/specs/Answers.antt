-- What the readers of the lines of n and d answer, in the terms of the sheet's definitions.
use Rattle.std.specs.Prelude.{List, ℕ, ◌-◌, length, Result, Ok, Err}
use Rattle.refusals.specs.declared.Refusal.{Refusal}
use Rattle.sheet.specs.Reader.{Parsed, Reader, got, stop, line_of, read_number}
use Rattle.line_parts.specs.LineValues.{key_of}
use Rattle.number_reader.specs.declared.NumberLine.{NumberLine}

-- RULES, "The sheet": a number of so many digits, behind any key.
abbrev pub number_behind_key : ℕ → ℕ → Reader ℕ
number_behind_key digits at s = line_of (key_of s) digits read_number (Refusal.Form at) s

-- The answer for a line with a number: how many bytes were read, and the number; or the refusal.
unfoldable pub number_answer : List ℕ → Parsed ℕ → Result NumberLine Refusal
number_answer s (got m rest) = Ok (record { used = length s - length rest; number = m })
number_answer s (stop refusal) = Err refusal
