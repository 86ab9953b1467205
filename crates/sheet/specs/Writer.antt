-- The writer as a function from a record to bytes.
use Rattle.refusals.specs.declared.Refusal.{Refusal}
use Rattle.std.specs.Prelude.{Result}
use mathlib.Core.List.{List, ◌++◌, flat_map}
use Rattle.std.specs.Prelude.{ℕ}
use Prim.Native.String.{String}
use Rattle.pauli.specs.declared.Pauli.{Pauli}
use Rattle.pauli.specs.Letters.{letter_text, row_text}
use Rattle.code_record.specs.declared.Code.{Code}
use Rattle.code_record.specs.Record.{generators, logical_xs, logical_zs, limits_fault}
use Rattle.sheet.specs.Text.{line, decimal, After, written}

unfoldable pub row_lines : String → ℕ → List Pauli → List ℕ
row_lines key n rows = flat_map (λ P. line key (row_text n P)) rows

-- RULES, "The writer": a record's sheet has the lines that are read, in their order.
unfoldable pub sheet_text : Code → List ℕ
sheet_text c =
    line "n=" (decimal c.n) ++ line "d=" (decimal c.d) ++ row_lines "g=" c.n (generators c)
    ++ row_lines "x=" c.n (logical_xs c) ++ row_lines "z=" c.n (logical_zs c) ++ line "w=" (letter_text c.n c.w)

-- The writer's call: 15, then 17, then the sheet's bytes and their count.
unfoldable pub write_sheet : Code → List ℕ → After (Result ℕ Refusal)
write_sheet c buffer = written (limits_fault c) (sheet_text c) buffer
