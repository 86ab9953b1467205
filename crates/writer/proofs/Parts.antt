-- The parts of a sheet, one behind the other, are the sheet.
use mathlib.Core.List.{List, [], ◌∷◌, ◌++◌, append_assoc}
use mathlib.Core.Path.{◌≡◌, refl, ap, sym, ◌∙◌}
use Prim.Native.Nat.{ℕ}
use Rattle.pauli.specs.Letters.{letter_text}
use Rattle.letters.specs.Lists.{bytes}
use Rattle.code_record.specs.declared.Code.{Code}
use Rattle.code_record.specs.Record.{generators, logical_xs, logical_zs}
use Rattle.sheet.specs.Text.{line}
use Rattle.sheet.specs.Writer.{row_lines, sheet_text}
use Rattle.row_writer.specs.Lines.{letters_line_text}
use Rattle.row_writer.proofs.Lines.{letters-keyed}
use Rattle.number_writer.specs.Lines.{number_text}
use Rattle.numbers_writer.specs.Numbers.{numbers_text}
use Rattle.families_writer.specs.Families.{families_text}

module _ (c : Code) where
  abbrev pub numbers : List ℕ
  numbers = numbers_text (110 ∷ 61 ∷ []) c.n (100 ∷ 61 ∷ []) c.d

  abbrev pub to_rows : List ℕ
  to_rows = numbers ++ families_text c

  abbrev pub to_w : List ℕ
  to_w = to_rows ++ letters_line_text 119 c.n c.w

  pub sheet-parts : to_w ≡ sheet_text c
  unfolding sheet_text numbers_text number_text families_text line bytes
  sheet-parts =
      ap (λ (w : List ℕ). to_rows ++ w) (letters-keyed "w=" 119 c.n c.w refl)
      ∙ ap (λ (rows : List ℕ). rows ++ line "w=" (letter_text c.n c.w))
      (sym (append_assoc numbers (g ++ x) z) ∙ ap (λ (front : List ℕ). front ++ z) (sym (append_assoc numbers g x)))
    where
      g : List ℕ
      g = row_lines "g=" c.n (generators c)

      x : List ℕ
      x = row_lines "x=" c.n (logical_xs c)

      z : List ℕ
      z = row_lines "z=" c.n (logical_zs c)
