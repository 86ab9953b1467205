-- The order "earlier" is a strict total order, and the lists of strings are in it and complete. `SmallerLetter` and
-- `Earlier` both compare a key and go on only where it is equal, so their laws are proved of one such step. The strings
-- of a weight are taken by their first letter: between two that begin differently its rank decides, and an equal first
-- letter keeps the order.
use mathlib.Core.HLevel.{⊥_prop, ×_prop, hedberg}
use mathlib.Core.List
use mathlib.Core.List.{List, [], ◌∷◌, map, flat_map, mem-append, Nodup, Pairwise}
use mathlib.Core.List.{Pairwise-append, Pairwise-singleton}
use mathlib.Core.List.Memᴰ
use mathlib.Core.List.{List-discrete, Memᴰ}
use mathlib.Core.Logic.Or
use mathlib.Core.Logic.Iff
use mathlib.Core.Logic.{◌⊎◌, inl, inr, ⊎_elim, ⊎_map, by_cases, ∥∥₁_elim}
use mathlib.Core.Path.{◌≡◌, refl, ap, sym, subst, ◌∙◌}
use Prim.Native.Nat.{ℕ, zero, suc, ◌+◌, ◌≤◌, ◌<◌}
use lib.ListN.{length, get_or, replicate}
use native.Mathlib.Bridge.{le_prop}
use native.Mathlib.Decide.{dec_lt, map_dec, ℕ_discrete}
use native.Mathlib.Nat.{lt_irrefl, ℕ_set, le-suc_iff, zero-add}
use native.Mathlib.Numerals.{one-add}
use native.Mathlib.Omega.{arith}
use Rattle.letters.specs.declared.Letter.{Letter}
use Rattle.letters.specs.declared.Letter.TheVariants.{I, X, Y, Z}
use Rattle.pauli.specs.Order.{rank, letter_weight, weight_of, SmallerLetter, Earlier, strings, strings_up_to}
use Rattle.pauli.specs.Statements.{EarlierIsStrictTotalOrder, StringsAreListed, StringsUpToAreListed}

-- ---- one step: a smaller key, or the same and R

abbrev Step : {K : Type 0} → (K → ℕ) → K → K → Type 0 → Type 0
Step key x y R = (key x < key y) ⊎ ((x ≡ y) × R)

module _ {K : Type 0} (key : K → ℕ) where
  step-irreflexive : {x : K} {R : Type 0} → (R → ⊥) → Step key x x R → ⊥
  step-irreflexive never = ⊎_elim (lt_irrefl _) (λ h. never h.1)

  step-transitive : {x y z : K} {R S T : Type 0} → (R → S → T) → Step key x y R → Step key y z S → Step key x z T
  step-transitive both (inl h) (inl k) = inl (omega arith)
  step-transitive both (inl h) (inr k) = inl (rw k.0 at h)
  step-transitive both (inr h) (inl k) = inl (rw h.0 k)
  step-transitive both (inr h) (inr k) = inr (h.0 ∙ k.0, both h.1 k.1)

module _ {K : Type 0} (key : K → ℕ) (key-injective : (x y : K) → key x ≡ key y → x ≡ y) where
  step-total : (x y : K) {E R S : Type 0} → (x ≡ y → E ⊎ R ⊎ S) → E ⊎ Step key x y R ⊎ Step key y x S
  step-total x y same =
      by_cases (dec_lt (key x) (key y)) (λ h. inr (inl (inl h)))
      λ h. by_cases (dec_lt (key y) (key x)) (λ k. inr (inr (inl k)))
      λ k. let e = key-injective x y (omega arith) in
      ⊎_map (λ p. p) (⊎_map (λ r. inr (e, r)) (λ r. inr (sym e, r))) (same e)

  -- Membership in a list is truncated, so an order that is read off it has to be a proposition.
  keys-set : IsSet K
  keys-set = hedberg (λ x y. map_dec (key-injective x y) (ap key) (ℕ_discrete (key x) (key y)))

  step-prop : {x y : K} {R : Type 0} → IsProp R → IsProp (Step key x y R)
  step-prop r (inl h) (inl k) = ap inl (le_prop h k)
  step-prop r (inl h) (inr k) = absurd (omega (arith, ap key k.0))
  step-prop r (inr h) (inl k) = absurd (omega (arith, ap key h.0))
  step-prop r (inr h) (inr k) = ap inr (×_prop (keys-set _ _) r h k)

-- ---- the letters

abbrev letters : List Letter
letters = I ∷ X ∷ Y ∷ Z ∷ []

letter-at-rank : (l : Letter) → get_or letters (rank l) I ≡ l
unfolding rank
letter-at-rank I = refl
letter-at-rank X = refl
letter-at-rank Y = refl
letter-at-rank Z = refl

rank-injective : (l m : Letter) → rank l ≡ rank m → l ≡ m
rank-injective l m e = cc (letter-at-rank l, letter-at-rank m)

pub strings-discrete : Discrete (List Letter)
strings-discrete = List-discrete λ l m. map_dec (rank-injective l m) (ap rank) (ℕ_discrete (rank l) (rank m))

-- ---- the first letter that differs

smaller-irreflexive : (s : List Letter) → SmallerLetter s s → ⊥
unfolding SmallerLetter
smaller-irreflexive [] h = h
smaller-irreflexive (l ∷ s) h = step-irreflexive rank (smaller-irreflexive s) h

smaller-transitive : (s t u : List Letter) → SmallerLetter s t → SmallerLetter t u → SmallerLetter s u
unfolding SmallerLetter
smaller-transitive [] [] u h j = absurd h
smaller-transitive [] (m ∷ t) u h j = absurd h
smaller-transitive (l ∷ s) [] u h j = absurd h
smaller-transitive (l ∷ s) (m ∷ t) [] h j = absurd j
smaller-transitive (l ∷ s) (m ∷ t) (k ∷ u) h j = step-transitive rank (smaller-transitive s t u) h j

smaller-total : (s t : List Letter) → length s ≡ length t → (s ≡ t) ⊎ SmallerLetter s t ⊎ SmallerLetter t s
unfolding SmallerLetter
smaller-total [] [] e = inl refl
smaller-total [] (m ∷ t) e = absurd (omega arith)
smaller-total (l ∷ s) [] e = absurd (omega arith)
smaller-total (l ∷ s) (m ∷ t) e =
    step-total rank rank-injective l m λ p. ⊎_map (λ q. cc) (λ r. r) (smaller-total s t (omega arith))

smaller-prop : (s t : List Letter) → IsProp (SmallerLetter s t)
unfolding SmallerLetter
smaller-prop [] [] = ⊥_prop
smaller-prop [] (m ∷ t) = ⊥_prop
smaller-prop (l ∷ s) [] = ⊥_prop
smaller-prop (l ∷ s) (m ∷ t) = step-prop rank rank-injective (smaller-prop s t)

-- ---- the weight first

pub earlier-prop : (s t : List Letter) → IsProp (Earlier s t)
unfolding Earlier
earlier-prop s t = step-prop (λ n. n) (λ m n e. e) (smaller-prop s t)

pub earlier-order : EarlierIsStrictTotalOrder
unfolding Earlier
earlier-order = record {
  irreflexive = λ s. step-irreflexive (λ n. n) (smaller-irreflexive s);
  transitive = λ s t u. step-transitive (λ n. n) (smaller-transitive s t u);
  total = λ s t e. step-total (λ n. n) (λ m n p. p) (weight_of s) (weight_of t) (λ p. smaller-total s t e);
}

-- In a list that rises no string stands twice.
rising-once : {listed : List (List Letter)} → Pairwise Earlier listed → Nodup listed
rising-once =
    List.Pairwise.imp (λ s t e same. earlier-order.irreflexive t (subst (λ (u : List Letter). Earlier u t) same e))

-- ---- strings by their first letter

earlier-cons : (l : Letter) (s t : List Letter) → Earlier s t → Earlier (l ∷ s) (l ∷ t)
unfolding Earlier SmallerLetter weight_of
earlier-cons l s t (inl h) = inl (omega arith)
earlier-cons l s t (inr h) = inr (omega arith, inr (refl, h.1))

-- The ranks rise, from k on.
abbrev Rising : ℕ → List Letter → Type 0
Rising k [] = Unit {0}
Rising k (l ∷ ls) = (k ≤ rank l) × Rising (suc (rank l)) ls

letters-rise : Rising 0 letters
unfolding rank
letters-rise = omega arith

-- All strings of a first letter and one of its tails.
module _ (tails : Letter → List (List Letter)) where
  abbrev beginning : Letter → List (List Letter)
  beginning l = map (λ s. l ∷ s) (tails l)

  by_first : (l : Letter) {s : List Letter} → Memᴰ s (tails l) → Memᴰ (l ∷ s) (flat_map beginning letters)
  unfolding flat_map
  by_first I m = search (Memᴰ.append_left, Memᴰ.map (λ s. I ∷ s) m)
  by_first X m = search (Memᴰ.append_left, Memᴰ.append_right, Memᴰ.map (λ s. X ∷ s) m)
  by_first Y m = search (Memᴰ.append_left, Memᴰ.append_right, Memᴰ.map (λ s. Y ∷ s) m)
  by_first Z m = search (Memᴰ.append_left, Memᴰ.append_right, Memᴰ.map (λ s. Z ∷ s) m)

  first-and-tail : (k : ℕ) (ls : List Letter) → Rising k ls → {t : List Letter} → Memᴰ t (flat_map beginning ls)
      → (l : Letter) × (s : List Letter) × (k ≤ rank l) × Memᴰ s (tails l) × (t ≡ l ∷ s)
  unfolding flat_map
  first-and-tail k [] rise m = absurd (Memᴰ.not-nil m)
  first-and-tail k (l ∷ ls) rise m =
      ⊎_elim (λ h. let r = Memᴰ.of_map (λ s. l ∷ s) (tails l) h in (l, r.0, rise.0, r.1, sym r.2))
      (λ h. let r = first-and-tail (suc (rank l)) ls rise.1 h in (r.0, r.1, omega arith, r.3, r.4))
      (Memᴰ.append_cases (beginning l) m)

  by-first-increasing : (w : ℕ) → ((l : Letter) (s : List Letter) → Memᴰ s (tails l) → weight_of (l ∷ s) ≡ w)
      → ((l : Letter) → Pairwise Earlier (tails l)) → (k : ℕ) (ls : List Letter) → Rising k ls
      → Pairwise Earlier (flat_map beginning ls)
  unfolding flat_map Earlier SmallerLetter
  by-first-increasing w weighs within k [] rise = List.Pairwise.nil
  by-first-increasing w weighs within k (l ∷ ls) rise =
      (Pairwise-append earlier-prop).1 (
        List.Pairwise.map earlier-prop (λ s. l ∷ s) (earlier-cons l) (within l),
        by-first-increasing w weighs within (suc (rank l)) ls rise.1,
        λ s m t j. ∥∥₁_elim m (earlier-prop s t) λ m'. ∥∥₁_elim j (earlier-prop s t) λ j'.
            let p = Memᴰ.of_map (λ u. l ∷ u) (tails l) m' in
            let q = first-and-tail (suc (rank l)) ls rise.1 j' in
            rw (← p.2, q.4) (inr (weighs l p.0 p.1 ∙ sym (weighs q.0 q.1 q.3), inl q.2)),
      )

-- ---- the strings of a weight

-- What a first letter leaves of the weight suc v.
abbrev rest : ℕ → Letter → ℕ
rest v I = suc v
rest v X = v
rest v Y = v
rest v Z = v

letter-and-rest : (v : ℕ) (l : Letter) → letter_weight l + rest v l ≡ suc v
unfolding letter_weight
letter-and-rest v I = omega arith
letter-and-rest v X = omega arith
letter-and-rest v Y = omega arith
letter-and-rest v Z = omega arith

abbrev tails_of : ℕ → ℕ → Letter → List (List Letter)
tails_of n v l = strings n (rest v l)

strings-weigh : (n v : ℕ) (s : List Letter) → Memᴰ s (strings n v) → (length s ≡ n) × (weight_of s ≡ v)
unfolding strings flat_map weight_of letter_weight
strings-weigh zero zero s m = rw (Memᴰ.eq_of_singleton m) (refl, refl)
strings-weigh zero (suc v) s m = absurd (Memᴰ.not-nil m)
strings-weigh (suc n) zero s m =
    rw (Memᴰ.eq_of_singleton m) (omega (arith, strings-weigh n zero (replicate n I) (Memᴰ.head refl)))
strings-weigh (suc n) (suc v) s m =
    let r = first-and-tail (tails_of n v) 0 letters letters-rise m in
    rw r.4 (omega (arith, strings-weigh n (rest v r.0) r.1 r.3, letter-and-rest v r.0))

cons-listed : (l : Letter) (n v : ℕ) {s : List Letter} → Memᴰ s (strings n v)
    → Memᴰ (l ∷ s) (strings (suc n) (letter_weight l + v))
unfolding strings flat_map letter_weight
cons-listed I n zero m = Memᴰ.head (ap (λ (s : List Letter). I ∷ s) (Memᴰ.eq_of_singleton m))
cons-listed I n (suc v) m = rw zero-add (by_first (tails_of n v) I m)
cons-listed X n v m = rw one-add (by_first (tails_of n v) X m)
cons-listed Y n v m = rw one-add (by_first (tails_of n v) Y m)
cons-listed Z n v m = rw one-add (by_first (tails_of n v) Z m)

listed : (s : List Letter) → Memᴰ s (strings (length s) (weight_of s))
unfolding strings weight_of
listed [] = Memᴰ.head refl
listed (l ∷ s) = cons-listed l (length s) (weight_of s) (listed s)

strings-increasing : (n v : ℕ) → Pairwise Earlier (strings n v)
unfolding strings flat_map
strings-increasing zero zero = Pairwise-singleton _ _
strings-increasing zero (suc v) = List.Pairwise.nil
strings-increasing (suc n) zero = Pairwise-singleton _ _
strings-increasing (suc n) (suc v) =
    by-first-increasing (tails_of n v) (suc v)
    (λ l s m. (strings-weigh (suc n) (suc v) (l ∷ s) (by_first (tails_of n v) l m)).1)
    (λ l. strings-increasing n (rest v l)) 0 letters letters-rise

pub strings-listed : StringsAreListed
strings-listed n v = record {
  exactly =
      λ s. (
        λ m. ∥∥₁_elim m (×_prop (ℕ_set _ _) (ℕ_set _ _)) (strings-weigh n v s),
        λ h. ∣ rw (h.0, h.1) at (listed s) ∣₁,
      );
  once = rising-once (strings-increasing n v);
  increasing = strings-increasing n v;
}

-- A weight at most suc t is at most t, or is suc t.
pub strings_up_to-listed : StringsUpToAreListed
unfolding strings_up_to Earlier
strings_up_to-listed n zero = record {
  exactly = λ s. Iff.trans ((strings-listed n 0).exactly s) (omega arith);
  once = (strings-listed n 0).once;
  increasing = (strings-listed n 0).increasing;
}
strings_up_to-listed n (suc t) =
    let before = strings_up_to-listed n t in
    let last = strings-listed n (suc t) in
    let rising : Pairwise Earlier (strings_up_to n (suc t)) =
    (Pairwise-append earlier-prop).1 (
      before.increasing,
      last.increasing,
      λ s m u k. inl (omega (arith, (before.exactly s).0 m, (last.exactly u).0 k)),
    ) in
    record {
      exactly = λ s. Iff.trans mem-append (Iff.trans (Iff.or (before.exactly s) (last.exactly s)) (
        λ o. Or.elim (×_prop (ℕ_set _ _) le_prop) o (λ h. omega arith) (λ h. omega arith),
        λ h. ∣ ⊎_map (λ k. (h.0, k)) (λ k. (h.0, k)) (le-suc_iff.0 h.1) ∣₁,
      ));
      once = rising-once rising;
      increasing = rising;
    }
