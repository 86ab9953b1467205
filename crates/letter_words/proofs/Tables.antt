-- The words of places in an array: none at first, then one place more with each store. Two arrays are compared place by
-- place.
use mathlib.Core.Bool.{Bool, true, false, cond}
use mathlib.Core.List.{List, ◌∷◌}
use mathlib.Core.Logic.{◌≢◌}
use mathlib.Core.Path.{◌≡◌, refl, ap, ap₂, sym, ◌∙◌}
use Prim.Native.Nat.{ℕ, zero, suc, ◌+◌, ◌<◌, ◌≤◌}
use native.Mathlib.Decide.{dec_lt}
use native.Mathlib.Nat.{zero-add}
use native.Mathlib.Omega.{arith}
use borrow.Author.Tests.{lt-ltb, le-ltb}
use lib.Dec.{ltb}
use lib.ListN.{length, get_or, set, replicate, length-set}
use lib.Seq.{ext_get_or, get_or-set_same, get_or-set_other}
use Rattle.letter_words.specs.Words.{word_room, words_from, filled_words}

-- ---- the words of places

module _ (word : ℕ → ℕ) where
  length-words : (at m : ℕ) → length (words_from word at m) ≡ m
  unfolding words_from
  length-words at zero = refl
  length-words at (suc m) = ap suc (length-words (at + 1) m)

  word_at : (at m i : ℕ) → i < m → get_or (words_from word at m) i 0 ≡ word (at + i)
  unfolding words_from
  word_at at zero i h = absurd (omega arith)
  word_at at (suc m) zero h = ap word (omega arith)
  word_at at (suc m) (suc i) h = word_at (at + 1) m i (omega arith) ∙ ap word (omega arith)

  no_words : ((i : ℕ) → word i ≡ 0) → (at m : ℕ) → replicate m 0 ≡ words_from word at m
  unfolding words_from
  no_words zeros at zero = refl
  no_words zeros at (suc m) = ap₂ ◌∷◌ (sym (zeros at)) (no_words zeros (at + 1) m)

-- ---- those of the first places

module _ (word : ℕ → ℕ) (end : ℕ) where
  pub length-filled : length (filled_words word end) ≡ word_room
  unfolding filled_words
  length-filled = length-words (λ at. cond (ltb at end) (word at) 0) 0 word_room

  either-word : (i : ℕ) → i < word_room → get_or (filled_words word end) i 0 ≡ cond (ltb i end) (word i) 0
  unfolding filled_words
  either-word i room =
      let own : ℕ → ℕ = λ at. cond (ltb at end) (word at) 0 in word_at own 0 word_room i room ∙ ap own (zero-add i)

  pub filled-word : (i : ℕ) → i < end → i < word_room → get_or (filled_words word end) i 0 ≡ word i
  filled-word i inside room = either-word i room ∙ ap (λ t. cond t (word i) 0) (lt-ltb i end inside)

  zero_word : (i : ℕ) → end ≤ i → i < word_room → get_or (filled_words word end) i 0 ≡ 0
  zero_word i behind room = either-word i room ∙ ap (λ t. cond t (word i) 0) (le-ltb i end behind)

pub filled_none : (word : ℕ → ℕ) → replicate word_room 0 ≡ filled_words word 0
unfolding filled_words
filled_none word =
    no_words (λ at. cond (ltb at 0) (word at) 0) (λ i. ap (λ t. cond t (word i) 0) (le-ltb i 0 (omega arith))) 0
    word_room

-- Words that are all 0.
pub filled-zeros : (end : ℕ) → replicate word_room 0 ≡ filled_words (λ at. 0) end
unfolding filled_words
filled-zeros end = no_words (λ at. cond (ltb at end) 0 0) (λ i. either_way (ltb i end)) 0 word_room
  where
    either_way : (t : Bool) → ◌≡◌ {A = ℕ} (cond t 0 0) 0
    either_way true = refl
    either_way false = refl

pub filled_more : (word : ℕ → ℕ) (end : ℕ) → end < word_room
    → set (filled_words word end) end (word end) ≡ filled_words word (end + 1)
filled_more word end room =
    ext_get_or 0 longer (filled_words word (end + 1)) (sized ∙ sym (length-filled word (end + 1)))
    (λ i l. same i (omega (arith, sized)))
  where
    longer : List ℕ
    longer = set (filled_words word end) end (word end)

    sized : length longer ≡ word_room
    sized = length-set (filled_words word end) end (word end) ∙ length-filled word end

    other : (i : ℕ) → i ≢ end → get_or longer i 0 ≡ get_or (filled_words word end) i 0
    other i = get_or-set_other (filled_words word end) end i (word end) 0

    here : get_or longer end 0 ≡ word end
    here = get_or-set_same (filled_words word end) end (word end) 0 (omega (arith, length-filled word end))

    same : (i : ℕ) → i < word_room → get_or longer i 0 ≡ get_or (filled_words word (end + 1)) i 0
    same i inside = elim (dec_lt i end) [
      | yes l ↦
          other i (omega arith) ∙ filled-word word end i l inside
          ∙ sym (filled-word word (end + 1) i (omega arith) inside)
      | no l ↦ elim (dec_lt end i) [
        | yes b ↦
            other i (omega arith) ∙ zero_word word end i (omega arith) inside
            ∙ sym (zero_word word (end + 1) i (omega arith) inside)
        | no b ↦
            let at : i ≡ end = omega arith in
            ap (λ (j : ℕ). get_or longer j 0) at ∙ here ∙ sym (ap word at)
            ∙ sym (filled-word word (end + 1) i (omega arith) inside)
      ]
    ]
