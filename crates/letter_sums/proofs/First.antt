-- The first element that passes a test: along joined and mapped lists.
use Rattle.std.specs.Option.{option_map}
use Rattle.std.specs.Prelude.{Option, Some, None}
use mathlib.Core.Bool.{Bool, true, false}
use mathlib.Core.List.{List, [], ◌∷◌, ◌++◌, map}
use mathlib.Core.Path.{◌≡◌, refl}
use Rattle.letters.specs.Lists.{first_of}

-- The first of two answers that is there.
unfoldable pub or_else : {A : Type 0} → Option A → Option A → Option A
or_else None o = o
or_else (Some a) o = Some a

module _ {A : Type 0} (test : A → Bool) where
  pub first-append : (xs ys : List A) → first_of test (xs ++ ys) ≡ or_else (first_of test xs) (first_of test ys)
  unfolding first_of or_else
  first-append [] ys = refl
  first-append (x ∷ xs) ys = go (test x) (first-append xs ys)
    where
      go : (t : Bool) → first_of test (xs ++ ys) ≡ or_else (first_of test xs) (first_of test ys)
          → elim t [ true ↦ Some x | false ↦ first_of test (xs ++ ys) ]
          ≡ or_else (elim t [ true ↦ Some x | false ↦ first_of test xs ]) (first_of test ys)
      go true rest = refl
      go false rest = rest

-- A test of mapped elements is a test of the elements.
pub first-map : {A B : Type 0} (test : B → Bool) (other : A → Bool) (f : A → B)
    → ((x : A) → test (f x) ≡ other x)
    → (xs : List A) → first_of test (map f xs) ≡ option_map f (first_of other xs)
unfolding first_of
first-map test other f same [] = refl
first-map test other f same (x ∷ xs) = rw (same x, first_of) (go (other x) (first-map test other f same xs))
  where
    go : (t : Bool) → first_of test (map f xs) ≡ option_map f (first_of other xs)
        → elim t [ true ↦ Some (f x) | false ↦ first_of test (map f xs) ]
        ≡ option_map f (elim t [ true ↦ Some x | false ↦ first_of other xs ])
    go true rest = refl
    go false rest = rest
