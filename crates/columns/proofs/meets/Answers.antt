-- The bit in the column of h's first one, which stands in its X part, or in its Z part, or nowhere.
use mathlib.Core.Path.{◌≡◌, ap, sym, ◌∙◌}
use Prim.Native.Nat.{ℕ, ◌/◌, ◌%◌, ◌^◌}
use lib.Dec.{eqb}
use Rattle.pauli.specs.Masks.{bits}
use Rattle.stabilizer.specs.Canonical.{first_one}
use Rattle.columns.proofs.FirstOnes.{meets-x, meets-z, meets-nowhere}
use Rattle.columns.proofs.meets.Goals as goal

-- The bit that was read decides.
told : {column : ℕ} (mask place first : ℕ) {read : ℕ} → read ≡ mask / 2 ^ place % 2 → place ≡ first
    → mask / 2 ^ first % 2 ≡ column → eqb read 1 ≡ eqb column 1
told mask place first e there met =
    ap (λ (b : ℕ). eqb b 1) (e ∙ ap (λ (k : ℕ). mask / 2 ^ k % 2) there ∙ met)

pub returns-then-has_one : goal.returns-then-has_one
returns-then-has_one c =
    let a = c.args in
    told a.p.a c.first_one.result (first_one (bits a.n a.h.a)) c.bit.ensures c.first_one.ensures
    (meets-x a.n a.h a.p (sym c.has_one.ensures ∙ c.if-has_one.true))

pub returns-then-has_one-2 : goal.returns-then-has_one-2
returns-then-has_one-2 c =
    let a = c.args in
    told a.p.b c.first_one-then-has_one-2.result (first_one (bits a.n a.h.b)) c.bit-then-has_one-2.ensures
    c.first_one-then-has_one-2.ensures
    (meets-z a.n a.h a.p (sym c.has_one.ensures ∙ c.if-has_one.false) (sym c.has_one-2.ensures ∙ c.if-has_one-2.true))

pub returns : goal.returns
returns c =
    let a = c.args in
    ap (λ (b : ℕ). eqb b 1)
    (meets-nowhere a.n a.h a.p (sym c.has_one.ensures ∙ c.if-has_one.false)
    (sym c.has_one-2.ensures ∙ c.if-has_one-2.false))
