-- The arm taken gives the two lowest bits, and they choose the letter.
use mathlib.Core.Path.{◌≡◌, ap₂, sym}
use Prim.Native.Nat.{ℕ, ◌%◌}
use native.Mathlib.Omega.{arith}
use Rattle.letters.specs.Letters.{letter_at}
use Rattle.letters.proofs.Letter.of_bits.Goals as goal

chosen : (x z u v : ℕ) → x % 2 ≡ u → z % 2 ≡ v → letter_at u v ≡ letter_at (x % 2) (z % 2)
chosen x z u v ex ez = ap₂ letter_at (sym ex) (sym ez)

pub returns-in-0 : goal.returns-in-0
unfolding letter_at
returns-in-0 c = chosen c.args.x c.args.z 0 0 (omega arith) (omega arith)

pub returns-in-1 : goal.returns-in-1
unfolding letter_at
returns-in-1 c = chosen c.args.x c.args.z 1 0 (omega arith) (omega arith)

pub returns-in-2 : goal.returns-in-2
unfolding letter_at
returns-in-2 c = chosen c.args.x c.args.z 0 1 (omega arith) (omega arith)

pub returns-in_default : goal.returns-in_default
unfolding letter_at
returns-in_default c = chosen c.args.x c.args.z 1 1 (omega arith) (omega arith)
