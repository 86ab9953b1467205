-- The sheet's length is the sum of its lines'.
use mathlib.Core.Bool.{true}
use mathlib.Core.Path.{◌≡◌}
use Prim.Native.Nat.{◌+◌, ◌*◌}
use native.Mathlib.Omega.{arith}
use lib.ListN.{length, length-append}
use Rattle.letters.specs.Lists.{bytes}
use Rattle.code_record.specs.declared.Code.{Code}
use Rattle.code_record.specs.Record.{pair_count, logical_count, within_limits, Sized}
use Rattle.code_record.proofs.Limits.{limits}
use Rattle.sheet.specs.Text.{decimal}
use Rattle.sheet.specs.Writer.{sheet_text}
use Rattle.sheet.proofs.Lengths.{length-line, length-letter_text, length-row_lines}
use Rattle.sheet.proofs.Lengths.{length-generators, length-logical_xs, length-logical_zs}

-- The lines of n and d have three bytes beside their digits.
module _ (c : Code) (sized : Sized c) (within : within_limits c ≡ true) where
  pub sheet-length : length (sheet_text c)
      ≡ length (decimal c.n) + length (decimal c.d) + 6 + (c.r + 2 * pair_count c.n c.r) * (c.n + 4)
      + (c.n + 3)
  unfolding sheet_text bytes logical_count
  sheet-length =
      let l = limits c within in
      simp (
        length-append,
        length-line,
        length-row_lines,
        length-letter_text,
        length-generators c sized l,
        length-logical_xs c sized l,
        length-logical_zs c sized l,
      )
      (omega arith)
