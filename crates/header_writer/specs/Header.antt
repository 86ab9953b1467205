-- The lines of n, k, d and t, with which a report's account of a code begins, and the call for them.
use Rattle.refusals.specs.declared.Refusal.{Refusal}
use Rattle.std.specs.Prelude.{None, Result}
use Rattle.std.specs.Prelude.{List, ◌++◌, ℕ}
use Rattle.sheet.specs.Text.{line, decimal, After, written}

-- RULES, "The report": the numbers n, k, d and t.
unfoldable pub header_text : ℕ → ℕ → ℕ → ℕ → List ℕ
header_text n k d t =
    line "n=" (decimal n) ++ line "k=" (decimal k) ++ line "d=" (decimal d) ++ line "t=" (decimal t)

-- RULES, "Calls and buffers": these lines by themselves, of any four numbers: 17, then the lines and their length.
unfoldable pub write_header : ℕ → ℕ → ℕ → ℕ → List ℕ → After (Result ℕ Refusal)
write_header n k d t buffer = written None (header_text n k d t) buffer
