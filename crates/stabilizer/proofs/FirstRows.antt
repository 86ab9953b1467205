-- The first rows of a list, one by one from the front: the row at a place, then the rows behind it.
use mathlib.Core.List.{List, [], ◌∷◌}
use mathlib.Core.Logic.{◌⊎◌, ⊎_elim}
use mathlib.Core.Path.{◌≡◌, ap, ap₂, sym, ◌∙◌}
use Prim.Native.Nat.{ℕ, ◌+◌, ◌<◌, ◌≤◌}
use native.Mathlib.Numerals.{add-one}
use native.Mathlib.Omega.{arith}
use lib.ListN.{length, take, drop, get_or, length-take, drop_of_length-le}
use lib.Seq.{drop-cons, get_or-take}
use Rattle.pauli.specs.declared.Pauli.{Pauli}
use Rattle.pauli.specs.Product.{identity}

module _ (rows : List Pauli) (count place : ℕ) where
  pub taken_at : place < count → place < length rows
      → drop place (take count rows) ≡ get_or rows place identity ∷ drop (place + 1) (take count rows)
  taken_at few inside =
      drop-cons (take count rows) place identity (omega (arith, length-take count rows))
      ∙ ap₂ ◌∷◌ (get_or-take count rows place identity few)
      (ap (λ (i : ℕ). drop i (take count rows)) (sym (add-one place)))

  pub taken-end : (count ≤ place) ⊎ (length rows ≤ place) → drop place (take count rows) ≡ []
  taken-end end =
      let short = length-take count rows in
      let past : length (take count rows) ≤ place =
      ⊎_elim (λ e. omega (arith, e, short)) (λ e. omega (arith, e, short)) end in
      drop_of_length-le (take count rows) past
