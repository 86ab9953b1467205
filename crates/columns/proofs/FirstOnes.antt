-- A row's bit in the column of another's first one, part by part: where that row has a one in its X part, then in its Z
-- part, and where it has none.
use mathlib.Core.Bool.{true, false}
use mathlib.Core.Path.{◌≡◌, ap, sym, ◌∙◌}
use Prim.Native.Nat.{ℕ, ◌+◌, ◌/◌, ◌%◌, ◌^◌, ◌<◌, min}
use native.Mathlib.Decide.{dec_lt}
use native.Mathlib.Nat.{add-sub_cancel_left}
use native.Mathlib.Omega.{arith}
use borrow.Author.Tests.{le-ltb, ltb-true, ltb-false}
use lib.Count.{count_trailing_zeros}
use lib.Dec.{ltb}
use Rattle.pauli.specs.Masks.{bits}
use Rattle.pauli.specs.declared.Pauli.{Pauli}
use Rattle.stabilizer.specs.Canonical.{first_one, column, pivot}
use Rattle.stabilizer.proofs.Columns.{first_one-found, first_one-missed, first_one-le}
use Rattle.stabilizer.proofs.Columns.{column-x, column-z, column-outside, pivot-x, pivot-z}

-- ---- the zeros below a first one, as a machine counts them

module _ (n m : ℕ) where
  pub one-tested : m < 2 ^ 32 → count_trailing_zeros 32 m < 32
      → ltb (count_trailing_zeros 32 m) n ≡ ltb (first_one (bits n m)) n
  one-tested fits here = elim (dec_lt (count_trailing_zeros 32 m) n) [
    | yes l ↦ ap (λ (k : ℕ). ltb k n) (sym (first_one-found n 32 m l here))
    | no l ↦
        le-ltb _ n (omega arith) ∙ sym (le-ltb _ n (omega (arith, first_one-missed n 32 m fits (omega arith))))
  ]

  pub no-one-tested : m < 2 ^ 32 → (count_trailing_zeros 32 m < 32 → ⊥)
      → ltb (count_trailing_zeros 32 m) 32 ≡ ltb (first_one (bits n m)) n
  no-one-tested fits none =
      le-ltb (count_trailing_zeros 32 m) 32 (omega arith)
      ∙ sym (le-ltb _ n (omega (arith, first_one-missed n 32 m fits (omega arith))))

  pub zeros-below : m < 2 ^ 32 → ltb (first_one (bits n m)) n ≡ true → count_trailing_zeros 32 m ≡ first_one (bits n m)
  zeros-below fits h = elim (dec_lt (count_trailing_zeros 32 m) (min n 32)) [
    | yes l ↦ sym (first_one-found n 32 m (omega arith) (omega arith))
    | no l ↦ absurd (omega (arith, ltb-true _ n h, first_one-missed n 32 m fits (omega arith)))
  ]

  pub no-first-one : ltb (first_one (bits n m)) n ≡ false → first_one (bits n m) ≡ n
  no-first-one h = omega (arith, ltb-false _ n h, first_one-le n m)

-- ---- the column of a row's first one

module _ (n : ℕ) (h P : Pauli) where
  pub meets-x : ltb (first_one (bits n h.a)) n ≡ true
      → P.a / 2 ^ first_one (bits n h.a) % 2 ≡ column n P (pivot n h)
  meets-x l =
      let few = ltb-true _ n l in
      sym (ap (column n P) (pivot-x n h few) ∙ column-x n P (first_one (bits n h.a)) few)

  module _ (none : ltb (first_one (bits n h.a)) n ≡ false) where
    pub meets-z : ltb (first_one (bits n h.b)) n ≡ true
        → P.b / 2 ^ first_one (bits n h.b) % 2 ≡ column n P (pivot n h)
    meets-z l =
        let few = ltb-true _ n l in
        let z = first_one (bits n h.b) in
        sym (ap (column n P) (pivot-z n h (no-first-one n h.a none))
        ∙ column-z n P (n + z) (omega arith) (omega arith)
        ∙ ap (λ (k : ℕ). P.b / 2 ^ k % 2) (add-sub_cancel_left n z))

    pub meets-nowhere : ltb (first_one (bits n h.b)) n ≡ false → 0 ≡ column n P (pivot n h)
    meets-nowhere l =
        sym (ap (column n P) (pivot-z n h (no-first-one n h.a none))
        ∙ column-outside n P _ (omega (arith, no-first-one n h.b l)))
