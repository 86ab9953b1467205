-- Lines made from the elements of a list are equal where each of them is, and what holds of each member holds along the
-- list. Each by induction along the list.
use mathlib.Core.List.{List, [], ◌∷◌, ◌++◌, map, flat_map}
use mathlib.Core.List.{Mem, Memᴰ}
use mathlib.Core.Logic.{∥∥₁_map, ∥∥₁_elim}
use mathlib.Core.Path.{◌≡◌, refl, ap, ap₂, sym, subst}
use Prim.Native.Nat.{ℕ}
use Rattle.stabilizer.proofs.All.{All}

pub lines-of-mapped : {A B : Type 0} (text : B → List ℕ) (f : A → B) (xs : List A)
    → flat_map text (map f xs) ≡ flat_map (λ x. text (f x)) xs
unfolding flat_map
lines-of-mapped text f [] = refl
lines-of-mapped text f (x ∷ xs) = ap (λ (t : List ℕ). text (f x) ++ t) (lines-of-mapped text f xs)

pub same_lines : {A : Type 0} (f g : A → List ℕ) → ((x : A) → f x ≡ g x) → (xs : List A)
    → flat_map f xs ≡ flat_map g xs
unfolding flat_map
same_lines f g same [] = refl
same_lines f g same (x ∷ xs) = ap₂ ◌++◌ (same x) (same_lines f g same xs)

pub all-members : {A : Type 0} (P : A → Type 0) (xs : List A) → ((x : A) → Mem x xs → P x) → All P xs
all-members P [] each = tt
all-members P (x ∷ xs) each =
    (each x ∣ Memᴰ.head refl ∣₁, all-members P xs (λ y m. each y (∥∥₁_map m (λ d. Memᴰ.tail d))))

pub member-of-all : {A : Type 0} (P : A → Type 0) → ((x : A) → IsProp (P x)) → (xs : List A) → All P xs → (x : A)
    → Mem x xs → P x
member-of-all {A} P prop xs all x m = ∥∥₁_elim m (prop x) (go xs all)
  where
    go : (xs : List A) → All P xs → Memᴰ x xs → P x
    go [] all m = elim m [ ]
    go (y ∷ ys) all (Memᴰ.head e) = subst P (sym e) all.0
    go (y ∷ ys) all (Memᴰ.tail d) = go ys all.1 d
