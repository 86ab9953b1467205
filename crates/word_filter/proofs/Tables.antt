-- The table of first places: how it grows from the last word down, and what it rules out.
use Rattle.std.specs.Prelude.{None}
use mathlib.Core.Bool.{true, false, true≢false}
use mathlib.Core.List.{List, [], ◌∷◌}
use mathlib.Core.Path.{◌≡◌, refl, ap, sym, subst, ◌∙◌}
use Prim.Native.Nat.{ℕ, zero, suc, ◌+◌, ◌*◌, ◌-◌, ◌<◌, ◌≤◌}
use native.Mathlib.Decide.{ℕ_discrete}
use native.Mathlib.Numerals.{unary_clauses}
use native.Mathlib.Omega.{arith}
use borrow.Author.Tests.{ltb-false, eqb-false}
use lib.Dec.{ltb}
use lib.ListN.{length, take, drop, get_or, set, length-take, length-set, length-replicate, drop_of_length-le}
use lib.Seq.{drop-cons, get_or-take, get_or-set_same, get_or-set_other}
use Rattle.letter_sums.specs.Sums.{earliest_of}
use Rattle.letter_sums.proofs.Words.{identity-unwanted, none-single}
use Rattle.word_filter.specs.Filter.{slot_of, no_places, places_from, first_places, NoneBefore, may_end}

-- ---- how the table grows

pub none-stored : (place : ℕ) (words : List ℕ) → length words ≤ place → no_places ≡ places_from place (drop place words)
unfolding places_from
none-stored place words end = ap (places_from place) (sym (drop_of_length-le words end))

-- The words from a place on have one word more than those behind it, and its place is stored last.
pub one-stored : (place : ℕ) (words : List ℕ) → 0 < place → place ≤ length words
    → set (places_from place (drop place words)) (slot_of (get_or words (place - 1) 0)) (place - 1)
    ≡ places_from (place - 1) (drop (place - 1) words)
unfolding places_from
one-stored zero words some inside = absurd (omega arith)
one-stored (suc place) words some inside =
    simp unary_clauses (ap (places_from place) (sym (drop-cons words place 0 (omega arith))))

-- ---- what it rules out

length-places : (place : ℕ) (words : List ℕ) → length (places_from place words) ≡ 4096
unfolding places_from no_places
length-places place [] = length-replicate {A = ℕ} 4096 255
length-places place (w ∷ words) =
    length-set (places_from (suc place) words) (slot_of w) place ∙ length-places (suc place) words

pub length-first-places : (words : List ℕ) → 4096 ≡ length (first_places words)
unfolding first_places
length-first-places words = sym (length-places 0 words)

own-place : (place w : ℕ) (words : List ℕ)
    → get_or (set (places_from (suc place) words) (slot_of w) place) (slot_of w) 0 ≡ place
own-place place w words =
    get_or-set_same (places_from (suc place) words) (slot_of w) place 0 (omega (arith, length-places (suc place) words))

-- At the slot of a word stands its place, or one before it.
at_most : (place : ℕ) (words : List ℕ) (j : ℕ) → j < length words
    → get_or (places_from place words) (slot_of (get_or words j 0)) 0 ≤ place + j
unfolding places_from
at_most place [] j inside = absurd (omega arith)
at_most place (w ∷ words) zero inside = omega (arith, own-place place w words)
at_most place (w ∷ words) (suc j) inside =
    let at = slot_of (get_or words j 0) in
    let longer = set (places_from (suc place) words) (slot_of w) place in
    elim (ℕ_discrete at (slot_of w)) [
      | yes same ↦ omega (arith, ap (λ (k : ℕ). get_or longer k 0) same, own-place place w words)
      | no other ↦
          omega (
            arith,
            get_or-set_other (places_from (suc place) words) (slot_of w) at place 0 other,
            at_most (suc place) words j (omega arith),
          )
    ]

pub all_told : (words : List ℕ) → NoneBefore (first_places words) words
unfolding first_places NoneBefore
all_told words j inside = omega (arith, at_most 0 words j inside)

-- What is told of the first words is told of fewer of them.
pub fewer-told : (places words : List ℕ) (m k : ℕ) → k ≤ m → NoneBefore places (take m words)
    → NoneBefore places (take k words)
unfolding NoneBefore
fewer-told places words m k few told j inside =
    let short = length-take k words in
    let same : get_or (take m words) j 0 ≡ get_or (take k words) j 0 =
    get_or-take m words j 0 (omega (arith, short)) ∙ sym (get_or-take k words j 0 (omega (arith, short))) in
    subst (λ (w : ℕ). get_or places (slot_of w) 0 ≤ j) same (told j (omega (arith, short, length-take m words)))

-- So a word whose slot has no place before an end is not before it.
not-before : (places words : List ℕ) (m end want : ℕ) → NoneBefore places (take m words)
    → ltb (get_or places (slot_of want) 0) end ≡ false
    → (j : ℕ) → j < end → j < m → j < length words → get_or words j 0 ≡ want → ⊥
unfolding NoneBefore
not-before places words m end want told e j before counted inside found =
    let early : get_or places (slot_of want) 0 ≤ j =
    subst (λ (w : ℕ). get_or places (slot_of w) 0 ≤ j) (get_or-take m words j 0 counted ∙ found)
    (told j (omega (arith, length-take m words))) in
    omega (arith, ltb-false (get_or places (slot_of want) 0) end e)

-- ---- strings

-- With one letter the place at the slot of the wanted word decides.
pub one-may-end : (places : List ℕ) (letters end want at place : ℕ) → letters ≡ 1 → at ≡ slot_of want
    → place ≡ get_or places at 0 → ltb place end ≡ may_end places letters end want
unfolding may_end
one-may-end places letters end want at place one own stands =
    ap (λ (k : ℕ). ltb k end) (stands ∙ ap (λ (slot : ℕ). get_or places slot 0) own)
    ∙ ap (λ (k : ℕ). may_end places k end want) (sym one)

-- With two letters or more nothing is ruled out.
pub many-may-end : (places : List ℕ) (letters end want : ℕ) → (letters ≡ 0 → ⊥) → (letters ≡ 1 → ⊥)
    → true ≡ may_end places letters end want
unfolding may_end
many-may-end places zero end want some more = absurd (some refl)
many-may-end places (suc zero) end want some more = absurd (more refl)
many-may-end places (suc (suc letters)) end want some more = refl

-- A string on the last n qubits is not found where it is ruled out.
pub none-ended : (places words second : List ℕ) (n letters end want shun : ℕ)
    → NoneBefore places (take (3 * n) words) → 3 * n ≤ length words → 3 * n ≤ end
    → may_end places letters end want ≡ false → earliest_of words second n letters want shun ≡ None
unfolding may_end
none-ended places words second n zero end want shun told room behind e =
    identity-unwanted words second n want shun (eqb-false want 0 e)
none-ended places words second n (suc zero) end want shun told room behind e =
    none-single words second n want shun λ j l.
    not-before places words (3 * n) end want told e j (omega arith) l (omega arith)
none-ended places words second n (suc (suc letters)) end want shun told room behind e = absurd (true≢false e)
