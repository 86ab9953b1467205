-- What holds of every element of a list: the same by places, as a test, and of lists that are joined or changed element
-- by element. Each law goes along the list. At the end stands the induction from the last element.
use mathlib.Core.Bool.{Bool, true, false}
use mathlib.Core.List.{List, [], ◌∷◌, ◌++◌, map, append-nil, append_assoc}
use mathlib.Core.Logic.Iff
use mathlib.Core.Logic.{◌↔◌}
use mathlib.Core.Path.{◌≡◌, refl, ap₂, sym, ◌∙◌}
use Prim.Native.Nat.{ℕ, zero, suc, ◌<◌}
use native.Mathlib.Omega.{arith}
use lib.ListN.{length, get_or}
use Rattle.letters.specs.Lists.{all_of, any_of}
use Rattle.code_record.proofs.Limits.{all_first, all_cons}
use Rattle.stabilizer.proofs.Tests.{neither, any-cons}

module _ {A : Type 0} where
  abbrev pub All : (A → Type 0) → List A → Type 0
  All P [] = Unit {0}
  All P (x ∷ xs) = P x × All P xs

  pub all_map : {P Q : A → Type 0} → ((x : A) → P x → Q x) → (xs : List A) → All P xs → All Q xs
  all_map f [] all = tt
  all_map f (x ∷ xs) all = (f x all.0, all_map f xs all.1)

  pub all-zip : {P Q R : A → Type 0} → ((x : A) → P x → Q x → R x) → (xs : List A) → All P xs → All Q xs → All R xs
  all-zip f [] ps qs = tt
  all-zip f (x ∷ xs) ps qs = (f x ps.0 qs.0, all-zip f xs ps.1 qs.1)

  -- The same by places.
  pub all-at : (P : A → Type 0) (d : A) (xs : List A) → All P xs → (i : ℕ) → i < length xs → P (get_or xs i d)
  all-at P d [] all i h = absurd (omega arith)
  all-at P d (x ∷ xs) all zero h = all.0
  all-at P d (x ∷ xs) all (suc i) h = all-at P d xs all.1 i (omega arith)

  pub all-places : (P : A → Type 0) (d : A) (xs : List A) → ((i : ℕ) → i < length xs → P (get_or xs i d)) → All P xs
  all-places P d [] at = tt
  all-places P d (x ∷ xs) at = (at 0 (omega arith), all-places P d xs (λ i h. at (suc i) (omega arith)))

  -- The same as a test that each passes, or that none passes.
  pub all-of : (test : A → Bool) (xs : List A) → (all_of test xs ≡ true) ↔ All (λ x. test x ≡ true) xs
  unfolding all_of
  all-of test [] = (λ h. tt, λ all. refl)
  all-of test (x ∷ xs) =
      let rest = all-of test xs in (
        λ h. let both = all_cons test x xs h in (both.0, rest.0 both.1),
        λ all. all_first test x xs ∙ rw all.0 (rest.1 all.1),
      )

  pub none_of : (test : A → Bool) (xs : List A) → any_of test xs ≡ false → All (λ x. test x ≡ false) xs
  none_of test [] h = tt
  none_of test (x ∷ xs) h = let none = neither (test x) (any_of test xs) (sym (any-cons test x xs) ∙ h) in
      (none.0, none_of test xs none.1)

module _ {A : Type 0} (S : A → Type 0) where
  pub all-every : ((x : A) → S x) → (xs : List A) → All S xs
  all-every every [] = tt
  all-every every (x ∷ xs) = (every x, all-every every xs)

  pub all_append : (xs ys : List A) → All S (xs ++ ys) ↔ (All S xs × All S ys)
  all_append [] ys = (λ q. (tt, q), λ (_, q). q)
  all_append (x ∷ xs) ys =
      let rest = all_append xs ys in
      (λ (p, pq). let (ps, q) = rest.0 pq in ((p, ps), q), λ ((p, ps), q). (p, rest.1 (ps, q)))

  pub all-mapped : {B : Type 0} (f : B → A) (xs : List B) → All S (map f xs) ↔ All (λ x. S (f x)) xs
  all-mapped f [] = Iff.rfl
  all-mapped f (x ∷ xs) = let rest = all-mapped f xs in (λ (p, ps). (p, rest.0 ps), λ (p, ps). (p, rest.1 ps))

-- What holds of [], and of a list with one element more behind it, holds of every list.
pub from_last : {A : Type 0} (S : List A → Type 0) → S [] → ((xs : List A) (x : A) → S xs → S (xs ++ x ∷ []))
    → (xs : List A) → S xs
from_last {A} S none more xs = go [] xs none
  where
    go : (before xs : List A) → S before → S (before ++ xs)
    go before [] p = rw append-nil p
    go before (x ∷ xs) p = rw append_assoc at (go (before ++ x ∷ []) xs (more before x p))

-- A map that changes no element.
pub map-own : {A : Type 0} (f : A → A) (xs : List A) → All (λ x. f x ≡ x) xs → map f xs ≡ xs
map-own f [] own = refl
map-own f (x ∷ xs) own = ap₂ ◌∷◌ own.0 (map-own f xs own.1)
