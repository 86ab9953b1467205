-- A test of some row among the first rows of a list, which are tried one by one from the front.
use mathlib.Core.Bool.{Bool, true, false, ◌||◌}
use mathlib.Core.List.{List}
use mathlib.Core.Logic.{inl}
use mathlib.Core.Path.{◌≡◌, refl, ap, sym, ◌∙◌}
use Prim.Native.Nat.{ℕ, ◌+◌, ◌<◌, ◌≤◌}
use native.Mathlib.Omega.{arith}
use lib.ListN.{length, take, drop, get_or}
use Rattle.pauli.specs.declared.Pauli.{Pauli}
use Rattle.letters.specs.Lists.{any_of}
use Rattle.pauli.specs.Product.{identity}
use Rattle.code_record.specs.Record.{row_room}
use Rattle.stabilizer.proofs.FirstRows.{taken_at, taken-end}
use Rattle.stabilizer.proofs.Tests.{any-cons}

-- Of the rows before a place those up to `earlier` were tried, and none passed: what is found from here on is what is
-- found from the beginning.
pub record Tried (test : Pauli → Bool) (rows : List Pauli) (place earlier : ℕ) : Type 0 where
  pub few : place < row_room
  pub within : earlier ≤ place
  pub same : any_of test (drop earlier (take place rows)) ≡ any_of test (take place rows)

pub tried-none : (test : Pauli → Bool) (rows : List Pauli) (place : ℕ) → place < row_room → Tried test rows place 0
tried-none test rows place few = record { few = few; within = omega arith; same = refl }

module _ {test : Pauli → Bool} {rows : List Pauli} {place earlier : ℕ} (tried : Tried test rows place earlier) where
  pub tried-all : place ≤ earlier → any_of test (take place rows) ≡ false
  unfolding any_of
  tried-all end = sym tried.same ∙ ap (any_of test) (taken-end rows place earlier (inl end))

  -- One row more.
  module _ (room : length rows ≡ row_room) (few : earlier < place) where
    here : {t : Bool} → test (get_or rows earlier identity) ≡ t
        → (t || any_of test (drop (earlier + 1) (take place rows))) ≡ any_of test (take place rows)
    here e =
        ap (λ t. t || any_of test (drop (earlier + 1) (take place rows))) (sym e)
        ∙ sym (ap (any_of test) (taken_at rows place earlier few (omega (arith, tried.few)))
        ∙ any-cons test (get_or rows earlier identity) (drop (earlier + 1) (take place rows)))
        ∙ tried.same

    pub tried-passes : test (get_or rows earlier identity) ≡ true → any_of test (take place rows) ≡ true
    tried-passes e = sym (here e)

    pub tried-more : test (get_or rows earlier identity) ≡ false → Tried test rows place (earlier + 1)
    tried-more e = record { few = tried.few; within = omega arith; same = here e }
