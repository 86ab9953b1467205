-- The machine's count of ones is that of the definition, and its sum with the sign's phase fits.
use mathlib.Core.Path.{ap₂, sym}
use Prim.Native.Nat.{ℕ, ◌+◌, ◌%◌, ◌≤◌}
use native.Mathlib.Omega.{arith}
use Rattle.letters.specs.declared.Sign.{Sign}
use Rattle.letters.specs.declared.Sign.TheVariants.{Plus, Minus}
use Rattle.pauli.specs.Letters.{row_phase}
use Rattle.letters.specs.Letters.{sign_phase}
use Rattle.pauli.proofs.Masks.{dot-ones, ones-and-le}
use borrow.Author.Rules.{rules}
use Rattle.pauli.proofs.row_phase.Goals as goal

sign_phase-le : (sign : Sign) → sign_phase sign ≤ 2
sign_phase-le Plus = omega arith
sign_phase-le Minus = omega arith

pub overflow_add-result : goal.overflow_add-result
overflow_add-result c =
    omega (
      arith,
      ones-and-le 32 c.args.a c.args.b (search rules),
      c.phase.ensures,
      sign_phase-le c.args.sign,
    )

pub returns : goal.returns
unfolding row_phase
returns c =
    ap₂ (λ (x y : ℕ). (x + y) % 4) (sym (dot-ones c.args.a c.args.b)) c.phase.ensures
