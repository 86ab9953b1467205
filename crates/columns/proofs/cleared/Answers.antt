-- The column of h's pivot decides.
use mathlib.Core.Path.{◌≡◌, ap, sym, ◌∙◌}
use mathlib.Core.Bool.{true, false, cond}
use Prim.Native.Nat.{ℕ}
use lib.Dec.{eqb}
use Rattle.pauli.specs.declared.Pauli.{Pauli}
use Rattle.pauli.specs.Product.{product}
use Rattle.stabilizer.specs.Canonical.{column, pivot, cleared}
use Rattle.columns.proofs.cleared.Goals as goal

module _ (n : ℕ) (h P : Pauli) where
  one-cleared : eqb (column n P (pivot n h)) 1 ≡ true → product P h ≡ cleared n h P
  unfolding cleared
  one-cleared met = ap (λ t. cond t (product P h) P) (sym met)

  nothing-cleared : eqb (column n P (pivot n h)) 1 ≡ false → P ≡ cleared n h P
  unfolding cleared
  nothing-cleared missed = ap (λ t. cond t (product P h) P) (sym missed)

pub returns-then-meets : goal.returns-then-meets
returns-then-meets c =
    let a = c.args in
    c.product.ensures
    ∙ one-cleared a.n a.h a.p (sym c.meets.ensures ∙ c.if-meets.true)

pub returns : goal.returns
returns c =
    let a = c.args in
    nothing-cleared a.n a.h a.p (sym c.meets.ensures ∙ c.if-meets.false)
