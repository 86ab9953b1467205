-- Tests as the code makes them: one operand of `&&` after the other, the negation of a test, and an equation of numbers
-- from either side.
use mathlib.Core.Bool.{Bool, true, false, not, ◌&&◌}
use mathlib.Core.Path.{◌≡◌, ap, sym, ◌∙◌}
use Prim.Native.Nat.{ℕ}
use borrow.Author.Tests.{not-true, not-false}
use native.Mathlib.Omega.{arith}
use lib.Dec.{eqb}
use Rattle.std.proofs.lemmas.Bool.Decides.{nat_tests}

-- `a && b` is b where a holds.
pub and-true_l : {a : Bool} (b : Bool) → a ≡ true → b ≡ (a && b)
and-true_l b e = ap (λ t. t && b) (sym e)

-- What a test says, where its negation was asked.
pub passed : {r t : Bool} → r ≡ t → not r ≡ false → t ≡ true
passed {r} e h = sym e ∙ not-false r h

pub failed : {r t : Bool} → r ≡ t → not r ≡ true → t ≡ false
failed {r} e h = sym e ∙ not-true r h

pub eqb_swap : (m k : ℕ) → eqb m k ≡ eqb k m
eqb_swap m k = grind (arith, nat_tests)
