-- The lines of the families: they are those of the rows of each, with their length. And what the call answers.
use Rattle.std.specs.Prelude.{Ok}
use mathlib.Core.List.{List, ◌++◌}
use mathlib.Core.Path.{◌≡◌, refl, ap, ap₂, sym, ◌∙◌}
use Prim.Native.Nat.{ℕ, ◌+◌, ◌*◌, ◌≤◌}
use native.Mathlib.Omega.{arith}
use lib.ListN.{length, length-append}
use Rattle.letters.specs.Lists.{bytes}
use Rattle.code_record.specs.declared.Code.{Code}
use Rattle.code_record.specs.Record.{most_qubits, row_room, logical_count, generators, logical_xs, logical_zs, Sized}
use Rattle.sheet.specs.Text.{laid}
use Rattle.sheet.specs.Writer.{row_lines}
use Rattle.sheet.proofs.WrittenText.{written-whole}
use Rattle.row_writer.proofs.Lines.{qubits-within}
use Rattle.rows_writer.specs.Rows.{rows_text}
use Rattle.rows_writer.proofs.Rows.{rows-keyed, length-there}
use Rattle.families_writer.specs.Families.{families_text, family_rows, write_families}

module _ (c : Code) where
  -- The lines up to each family.
  abbrev pub to_g : List ℕ
  to_g = rows_text 103 c.n (generators c)

  abbrev pub to_x : List ℕ
  to_x = to_g ++ rows_text 120 c.n (logical_xs c)

  abbrev pub to_z : List ℕ
  to_z = to_x ++ rows_text 122 c.n (logical_zs c)

  pub families-parts : to_z ≡ families_text c
  unfolding families_text bytes
  families-parts =
      ap₂ (λ (g x : List ℕ). g ++ x ++ rows_text 122 c.n (logical_zs c))
      (rows-keyed "g=" 103 c.n (generators c) refl) (rows-keyed "x=" 120 c.n (logical_xs c) refl)
      ∙ ap (λ (z : List ℕ). row_lines "g=" c.n (generators c) ++ row_lines "x=" c.n (logical_xs c) ++ z)
      (rows-keyed "z=" 122 c.n (logical_zs c) refl)

  pub length-families : Sized c → length (families_text c) ≡ family_rows c.n c.r * (c.n + 4)
  unfolding family_rows generators logical_xs logical_zs logical_count
  length-families sized =
      ap length (sym families-parts)
      ∙ omega (
        arith,
        length-append to_x (rows_text 122 c.n (logical_zs c)),
        length-append to_g (rows_text 120 c.n (logical_xs c)),
        length-there c.g row_room sized.room_g c.r 103 c.n,
        length-there c.x row_room sized.room_x (logical_count c) 120 c.n,
        length-there c.z row_room sized.room_z (logical_count c) 122 c.n,
      )

  -- What a caller with room is answered.
  pub families-has-room : (buffer : List ℕ) → 2 ≤ c.n → c.n ≤ most_qubits → length (families_text c) ≤ length buffer
      → write_families c buffer
      ≡ record { answer = Ok (length (families_text c)); buffer = laid (families_text c) buffer }
  unfolding write_families
  families-has-room buffer low high = written-whole _ _ (qubits-within c.n low high)
