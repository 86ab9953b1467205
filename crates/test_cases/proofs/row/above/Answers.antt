-- The bit is within the word, so the shift loses nothing.
use mathlib.Core.Path.{◌∙◌}
use Prim.Native.Nat.{◌%◌, ◌^◌}
use native.Mathlib.Nat.{one-mul}
use native.Mathlib.Omega.{arith}
use lib.Pow.{shl_exact}
use Rattle.test_cases.proofs.row.above.Goals as goal

pub returns : goal.returns
returns c = let at = c.args.n % 32 in shl_exact 1 at 32 (omega arith) (omega arith) ∙ one-mul (2 ^ at)
