-- The first one of the X part, or that of the Z part behind its n columns.
use mathlib.Core.Path.{ap, sym, ◌∙◌}
use Prim.Native.Nat.{ℕ, ◌+◌}
use borrow.Author.Tests.{ltb-true}
use Rattle.stabilizer.proofs.Columns.{pivot-x, pivot-z}
use Rattle.columns.proofs.FirstOnes.{no-first-one}
use Rattle.columns.proofs.pivot.Goals as goal

pub returns-then-has_one : goal.returns-then-has_one
returns-then-has_one c =
    let a = c.args in
    let one = sym c.has_one.ensures ∙ c.if-has_one.true in
    c.first_one.ensures ∙ sym (pivot-x a.n a.p (ltb-true _ a.n one))

pub returns : goal.returns
returns c =
    let a = c.args in
    let none = no-first-one a.n a.p.a (sym c.has_one.ensures ∙ c.if-has_one.false) in
    ap (λ (z : ℕ). a.n + z) c.first_one-2.ensures ∙ sym (pivot-z a.n a.p none)
