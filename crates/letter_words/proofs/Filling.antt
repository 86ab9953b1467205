-- A table of words that a loop fills place by place: the words of the places passed are there, and the others are still
-- 0. Each step is a law on tables, so a loop is left with what its words are and where they are stored.
use mathlib.Core.List.{List}
use mathlib.Core.Path.{◌≡◌, ap, ap₂, sym, ◌∙◌}
use Prim.Native.Nat.{ℕ, ◌+◌, ◌-◌, ◌*◌, ◌/◌, ◌%◌, ◌≤◌, ◌<◌}
use native.Mathlib.Omega.{arith}
use lib.ListN.{set, replicate}
use Rattle.letters.specs.declared.Letter.TheVariants.{X, Y, Z}
use Rattle.letters.specs.Letters.{struck_letter}
use Rattle.pauli.specs.declared.Pauli.{Pauli}
use Rattle.letter_sums.specs.declared.LetterWords.{LetterWords}
use Rattle.letter_sums.specs.Sums.{qubit_room}
use Rattle.letter_words.specs.Words.{word_room, single_letter, filled_words, letter_for, words_of}
use Rattle.letter_words.proofs.Tables.{filled_none, filled_more}

-- The word at a place of those of n qubits.
abbrev word_for : (Pauli → ℕ) → ℕ → ℕ → ℕ
word_for word n at = word (letter_for n at)

-- The table has the words of n qubits, and `put` lays it beside what else there is.
pub record Filling (word : Pauli → ℕ) (put : List ℕ → LetterWords) (n at : ℕ) (words : LetterWords) : Type 0 where
  pub few : n ≤ qubit_room
  pub within : at ≤ 3 * n
  pub filled : words ≡ put (filled_words (word_for word n) at)

pub none_filled : (word : Pauli → ℕ) (put : List ℕ → LetterWords) (n : ℕ) (words : LetterWords)
    → n ≤ qubit_room → words ≡ put (replicate word_room 0) → Filling word put n 0 words
none_filled word put n words few zeros = record {
  few = few;
  within = omega arith;
  filled = zeros ∙ ap put (filled_none (word_for word n));
}

module _ {word : Pauli → ℕ} {put : List ℕ → LetterWords} {n at : ℕ} {words : LetterWords}
    (filling : Filling word put n at words) where
  room : at < 3 * n → at < word_room
  room inside = omega (arith, filling.few)

  one_more : (next : ℕ) → next ≡ at + 1 → at < 3 * n → (store : LetterWords → ℕ → LetterWords)
      → ((table : List ℕ) (m : ℕ) → store (put table) m ≡ put (set table at m))
      → {m : ℕ} → m ≡ word_for word n at → Filling word put n next (store words m)
  one_more next e inside store stores own = record {
    few = filling.few;
    within = omega arith;
    filled = ap₂ store filling.filled own ∙ stores (filled_words (word_for word n) at) (word_for word n at)
        ∙ ap put (filled_more (word_for word n) at (room inside))
        ∙ ap (λ (end : ℕ). put (filled_words (word_for word n) end)) (sym e);
  }

  pub all-filled : 3 * n ≤ at → words ≡ put (words_of word n)
  unfolding words_of
  all-filled behind =
      let end : at ≡ 3 * n = omega (arith, filling.within) in
      filling.filled ∙ ap (λ (end : ℕ). put (filled_words (word_for word n) end)) end

-- The words of the letters at one qubit, which stand side by side.
module _ (word : Pauli → ℕ) (n right qubit : ℕ) (first : qubit + (right + 1) ≡ n) where
  letter_at : (i k : ℕ) → i ≡ 3 * right + k → k < 3 → word (single_letter qubit (struck_letter k)) ≡ word_for word n i
  unfolding letter_for
  letter_at i k e h =
      let place : qubit ≡ n - 1 - i / 3 = omega arith in
      let number : k ≡ i % 3 = omega arith in
      ap₂ (λ (place number : ℕ). word (single_letter place (struck_letter number))) place number

  pub three-more : {put : List ℕ → LetterWords} {words : LetterWords} → Filling word put n (3 * right) words
      → (store : ℕ → LetterWords → ℕ → LetterWords)
      → ((i : ℕ) (table : List ℕ) (m : ℕ) → store i (put table) m ≡ put (set table i m)) → {x y z : ℕ}
      → x ≡ word (single_letter qubit X) → y ≡ word (single_letter qubit Y) → z ≡ word (single_letter qubit Z)
      → let at = 3 * right in
      Filling word put n (3 * (right + 1)) (store (at + 2) (store (at + 1) (store at words x) y) z)
  unfolding struck_letter
  three-more filling store stores of_x of_y of_z =
      let at = 3 * right in
      let x =
      one_more filling (at + 1) (omega arith) (omega arith) (store at) (stores at)
      (of_x ∙ letter_at at 0 (omega arith) (omega arith)) in
      let y =
      one_more x (at + 2) (omega arith) (omega arith) (store (at + 1)) (stores (at + 1))
      (of_y ∙ letter_at (at + 1) 1 (omega arith) (omega arith)) in
      one_more y (3 * (right + 1)) (omega arith) (omega arith) (store (at + 2)) (stores (at + 2))
      (of_z ∙ letter_at (at + 2) 2 (omega arith) (omega arith))
