-- The earliest string of one letter, from the sets of qubits at which X, Y and Z have the wanted syndrome: the last
-- qubit of any set, and the first letter there.
use Rattle.std.specs.Prelude.{Some, None}
use mathlib.Core.Bool.{Bool, true, false, true≢false, not, ◌&&◌, and-true}
use mathlib.Core.List.{List}
use mathlib.Core.Path.{◌≡◌, ap, ap₂, sym, ◌∙◌}
use Prim.Native.Nat.{ℕ, zero, suc, ◌+◌, ◌-◌, ◌*◌, ◌/◌, ◌%◌, ◌^◌, ◌<◌, ◌≤◌}
use native.Mathlib.Decide.{ℕ_discrete}
use native.Mathlib.Omega.{arith}
use borrow.Author.Count.{below_none, below_more}
use borrow.Author.Tests.{eq-eqb, eqb-true}
use lib.Dec.{eqb}
use lib.ListN.{get_or, replicate, get_or-replicate}
use Rattle.letters.specs.declared.Letter.{Letter}
use Rattle.letters.specs.declared.Letter.TheVariants.{I}
use Rattle.letters.specs.Letters.{struck_letter}
use Rattle.pauli.specs.Letters.{of_letters}
use Rattle.pauli.specs.Order.{strings}
use Rattle.pauli.specs.Syndrome.{syndrome_mask}
use Rattle.pauli.proofs.EarlierOrder.{strings-listed}
use Rattle.pauli.proofs.First.{same-search}
use Rattle.code_record.specs.declared.Code.{Code}
use Rattle.code_record.specs.Record.{generators}
use Rattle.letter_sums.specs.Sums.{sums_to, passes, earliest_of, earliest_up_to, placed_at, found_as}
use Rattle.letter_sums.proofs.Words.{identity-fits, identity-unwanted, PassedOver, lone-nowhere, lone-here}
use Rattle.letter_sums.proofs.Words.{up-to-some, up-to-none}
use Rattle.letter_words.specs.declared.LetterSets.{LetterSets}
use Rattle.letter_words.specs.Words.{single_letter, letter_for, words_of, word_room, word_qubits, syndrome_words}
use Rattle.letter_words.specs.Words.{earliest_with}
use Rattle.letter_words.specs.Lone.{lone_letter, HasAt, AreCandidates}
use Rattle.letter_words.proofs.Sums.{syndromes-are-summed, word-qubits-fit}
use Rattle.letter_words.proofs.Tables.{filled-word}

-- ---- the sets

-- The set of the letter with number k, and whether it has a qubit.
unfoldable pub set_of : LetterSets → ℕ → ℕ
set_of sets zero = sets.x
set_of sets (suc zero) = sets.y
set_of sets (suc (suc k)) = sets.z

unfoldable pub fits : LetterSets → ℕ → ℕ → Bool
fits sets qubit k = eqb (set_of sets k / 2 ^ qubit % 2) 1

-- No letter fits at the qubits from a place on, of n.
abbrev pub NoneFrom : LetterSets → ℕ → ℕ → Type 0
NoneFrom sets n qubit = (q k : ℕ) → qubit ≤ q → q < n → k < 3 → fits sets q k ≡ false

-- ---- by words

module _ (c : Code) (want : ℕ) where
  abbrev first : List ℕ
  first = (syndrome_words c).first

  abbrev second : List ℕ
  second = (syndrome_words c).second

  lone-by-words : lone_letter c want ≡ earliest_of first second (word_qubits c) 1 want 1
  unfolding lone_letter earliest_of passes sums_to
  lone-by-words =
      same-search _ _ (strings (word_qubits c) 1) (strings-listed (word_qubits c) 1)
      (λ s meets. sym
      (ap₂ (λ (a b : ℕ). eqb a want && not (eqb b 1)) ((syndromes-are-summed c).first s meets.0)
      ((syndromes-are-summed c).second s meets.0)
      ∙ and-true (eqb (syndrome_mask (generators c) (of_letters s)) want)))

  -- The word of the letter with number k at the qubit with m to its right.
  word-there : (m k : ℕ) → k < 3 → m < word_qubits c
      → get_or first (3 * m + k) 0 ≡ syndrome_mask (generators c)
      (single_letter (word_qubits c - 1 - m) (struck_letter k))
  unfolding syndrome_words words_of letter_for
  word-there m k small inside =
      let n = word_qubits c in
      let word = syndrome_mask (generators c) in
      let place : n - 1 - (3 * m + k) / 3 ≡ n - 1 - m = omega arith in
      let number : (3 * m + k) % 3 ≡ k = omega arith in
      filled-word (λ at. word (letter_for n at)) (3 * n) (3 * m + k) (omega arith) (omega (arith, word-qubits-fit c))
      ∙ ap₂ (λ (q l : ℕ). word (single_letter q (struck_letter l))) place number

  -- ---- among the lighter strings

  on-words : (t : ℕ) → earliest_up_to first second (word_qubits c) t want 1 ≡ earliest_with c t want
  on-words t = (syndromes-are-summed c).found t want

  pub none_needed : want ≡ 0 → (t : ℕ) → earliest_with c t want ≡ Some (replicate (word_qubits c) I)
  none_needed e t =
      sym (on-words t)
      ∙ up-to-some first second (word_qubits c) t want 1 0 _ (omega arith) (below_none _)
      (identity-fits first second (word_qubits c) want 1 e (λ one. absurd (omega arith)))

  module _ (struck : want ≡ 0 → ⊥) where
    unstruck : (v : ℕ) → v < 1 → earliest_of first second (word_qubits c) v want 1 ≡ None
    unstruck = below_more _ 0 (below_none _) (identity-unwanted first second (word_qubits c) want 1 struck)

    pub none_allowed : (t : ℕ) → t < 1 → earliest_with c t want ≡ None
    none_allowed t few = sym (on-words t) ∙ up-to-none first second (word_qubits c) t want 1 1 few unstruck

    pub one-is-enough : (t : ℕ) → 1 ≤ t → (s : List Letter) → lone_letter c want ≡ Some s
        → earliest_with c t want ≡ Some s
    one-is-enough t room s found =
        sym (on-words t)
        ∙ up-to-some first second (word_qubits c) t want 1 1 s room unstruck (sym lone-by-words ∙ found)

    pub one-is-not-enough : (t : ℕ) → t < 2 → lone_letter c want ≡ None → earliest_with c t want ≡ None
    one-is-not-enough t few nothing =
        sym (on-words t)
        ∙ up-to-none first second (word_qubits c) t want 1 2 few
        (below_more _ 1 unstruck (sym lone-by-words ∙ nothing))

  -- ---- by the sets

  module _ {sets : LetterSets} (are : AreCandidates (generators c) want sets) where
    -- The word of a letter is the wanted one where its set has the qubit.
    has : (k : ℕ) → HasAt (generators c) want (struck_letter k) (set_of sets k)
    unfolding struck_letter set_of
    has zero = are.of_x
    has (suc zero) = are.of_y
    has (suc (suc k)) = are.of_z

    word_fits : (m k : ℕ) → k < 3 → m < word_qubits c
        → fits sets (word_qubits c - 1 - m) k ≡ eqb (get_or first (3 * m + k) 0) want
    unfolding fits HasAt
    word_fits m k small inside =
        has k (word_qubits c - 1 - m) (omega (arith, word-qubits-fit c))
        ∙ ap (λ (word : ℕ). eqb word want) (sym (word-there m k small inside))

    -- A letter that does not fit has another word.
    passed_over : (j : ℕ) → j < 3 * word_qubits c → fits sets (word_qubits c - 1 - j / 3) (j % 3) ≡ false
        → PassedOver first second want 1 j
    passed_over j inside unfit own =
        let at : 3 * (j / 3) + j % 3 ≡ j = omega arith in
        let fitting = word_fits (j / 3) (j % 3) (omega arith) (omega arith) in
        absurd
        (true≢false (sym (fitting ∙ eq-eqb _ want (ap (λ (i : ℕ). get_or first i 0) at ∙ own)) ∙ unfit))

    pub none-fits : NoneFrom sets (word_qubits c) 0 → None ≡ found_as (lone_letter c want)
    none-fits nothing =
        lone-nowhere first second (word_qubits c) want 1 (3 * word_qubits c) (omega arith)
        (λ j l. passed_over j l (nothing _ (j % 3) (omega arith) (omega arith) (omega arith)))
        ∙ ap found_as (sym lone-by-words)

    module _ (qubit k : ℕ) (inside : qubit < word_qubits c) (small : k < 3)
        (behind : NoneFrom sets (word_qubits c) (qubit + 1))
        (before : (j : ℕ) → j < k → fits sets qubit j ≡ false) (here : fits sets qubit k ≡ true) where
      abbrev right : ℕ
      right = word_qubits c - 1 - qubit

      abbrev place : ℕ
      place = 3 * right + k

      own : get_or first place 0 ≡ want
      own =
          let at-qubit : word_qubits c - 1 - right ≡ qubit = omega arith in
          eqb-true (get_or first place 0) want
          (sym (word_fits right k small (omega arith)) ∙ ap (λ (q : ℕ). fits sets q k) at-qubit ∙ here)

      unshunned : get_or second place 0 ≡ 1 → ⊥
      unfolding syndrome_words
      unshunned e = omega (arith, e, get_or-replicate {A = ℕ} word_room place 0 0 (omega (arith, word-qubits-fit c)))

      unfit : (j : ℕ) → j < place → fits sets (word_qubits c - 1 - j / 3) (j % 3) ≡ false
      unfit j l = elim (ℕ_discrete (j / 3) right) [
        | yes e ↦
            let at-qubit : word_qubits c - 1 - j / 3 ≡ qubit = omega arith in
            ap (λ (q : ℕ). fits sets q (j % 3)) at-qubit ∙ before (j % 3) (omega arith)
        | no e ↦ behind _ (j % 3) (omega arith) (omega arith) (omega arith)
      ]

      pub found-there : placed_at qubit (struck_letter k) 0 0 ≡ found_as (lone_letter c want)
      found-there =
          let gap : qubit ≡ word_qubits c - place / 3 - 1 = omega arith in
          let number : k ≡ place % 3 = omega arith in
          ap₂ (λ (g l : ℕ). placed_at g (struck_letter l) 0 0) gap number
          ∙ lone-here first second (word_qubits c) want 1 place (omega arith)
          (λ j l. passed_over j (omega arith) (unfit j l)) own unshunned
          ∙ ap found_as (sym lone-by-words)

-- A qubit more at which no letter fits.
pub none_here : (sets : LetterSets) (n qubit : ℕ) → NoneFrom sets n (qubit + 1)
    → ((k : ℕ) → k < 3 → fits sets qubit k ≡ false) → NoneFrom sets n qubit
none_here sets n qubit behind each q k at inside small = elim (ℕ_discrete q qubit) [
  | yes e ↦ ap (λ (q : ℕ). fits sets q k) e ∙ each k small
  | no e ↦ behind q k (omega arith) inside small
]
