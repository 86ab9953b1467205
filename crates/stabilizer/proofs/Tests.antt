-- Tests, by cases on what they say; and a test of some element of a list, along the list.
use mathlib.Core.Bool.{Bool, true, false, ◌||◌, or_assoc, true≢false}
use mathlib.Core.List.{List, [], ◌∷◌, ◌++◌, map}
use mathlib.Core.Logic.{◌↔◌, ◌⊎◌, inl, inr}
use mathlib.Core.Path.{◌≡◌, refl, sym}
use Rattle.letters.specs.Lists.{any_of}

-- A test passes or fails.
pub by-test : (F : Bool → Type 0) (t : Bool) → (t ≡ true → F true) → (t ≡ false → F false) → F t
by-test F true passed failed = passed refl
by-test F false passed failed = failed refl

pub same_tests : (s t : Bool) → (s ≡ true) ↔ (t ≡ true) → s ≡ t
same_tests true t h = sym (h.0 refl)
same_tests false true h = h.1 refl
same_tests false false h = refl

pub either : (a b : Bool) → (a || b) ≡ true → (a ≡ true) ⊎ (b ≡ true)
either true b h = inl refl
either false b h = inr h

pub neither : (a b : Bool) → (a || b) ≡ false → (a ≡ false) × (b ≡ false)
neither true b h = absurd (true≢false h)
neither false b h = (refl, h)

-- ---- some element passes

module _ {A : Type 0} (test : A → Bool) where
  pub any-cons : (x : A) (xs : List A) → any_of test (x ∷ xs) ≡ (test x || any_of test xs)
  unfolding any_of
  any-cons x xs = go (test x)
    where
      go : (t : Bool) → elim t [ true ↦ true | false ↦ any_of test xs ] ≡ (t || any_of test xs)
      go true = refl
      go false = refl

  pub any_append : (xs ys : List A) → any_of test (xs ++ ys) ≡ (any_of test xs || any_of test ys)
  unfolding any_of
  any_append [] ys = refl
  any_append (x ∷ xs) ys = let rest = any_append xs ys in simp (any-cons, rest, or_assoc)

pub any-map : {A B : Type 0} (test : B → Bool) (f : A → B) (xs : List A)
    → any_of test (map f xs) ≡ any_of (λ x. test (f x)) xs
unfolding any_of
any-map test f [] = refl
any-map test f (x ∷ xs) = let rest = any-map test f xs in simp (any-cons, rest)
