-- A function of Paulis that is additive has words that sum, along a string of letters, to what it is of the string.
use mathlib.Core.Bool.{not, ◌&&◌, and-true}
use mathlib.Core.List.{List}
use mathlib.Core.Path.{◌≡◌, refl, ap, ap₂, sym, ◌∙◌}
use Prim.Native.Nat.{ℕ, suc, ◌+◌, ◌-◌, ◌*◌, ◌/◌, ◌%◌, ◌^◌, ◌≤◌, ◌<◌, min}
use native.Mathlib.Nat.{zero-mul}
use native.Mathlib.Omega.{arith}
use lib.Bits.{bit_xor, xor_self, xor_zero_r}
use lib.Dec.{eqb}
use lib.ListN.{length, get_or}
use Rattle.letters.specs.declared.Letter.{Letter}
use Rattle.letters.specs.declared.Letter.TheVariants.{I, X, Y, Z}
use Rattle.letters.specs.Letters.{x_bit, z_bit, struck_letter}
use Rattle.pauli.specs.declared.Pauli.{Pauli}
use Rattle.pauli.specs.Letters.{x_mask, z_mask, row_of, signed_row, of_letters}
use Rattle.pauli.specs.Order.{strings_up_to}
use Rattle.pauli.specs.Product.{product}
use Rattle.pauli.specs.Syndrome.{syndrome_mask}
use Rattle.pauli.proofs.EarlierOrder.{strings_up_to-listed}
use Rattle.pauli.proofs.First.{same-search}
use Rattle.pauli.proofs.Product.{pauli}
use Rattle.pauli.proofs.SyndromeMask.{syndrome-mask-is-additive, syndrome-mask-of-masks}
use Rattle.code_record.specs.declared.Code.{Code}
use Rattle.code_record.specs.Record.{generators}
use Rattle.letter_sums.specs.Sums.{qubit_room, word_at, sum_of, sums_to, passes, earliest_up_to, earliest_by, found_as}
use Rattle.letter_sums.proofs.Additive.{IsTable, sum-of-table}
use Rattle.letter_words.specs.Statements.{SyndromesAreSummed}
use Rattle.letter_words.specs.Words.{single_letter, letter_for, words_of, word_qubits, syndrome_words, earliest_with}
use Rattle.letter_words.proofs.Singles.{masks-of-single, masks-of-x, masks-of-y, masks-of-z}
use Rattle.letter_words.proofs.Tables.{filled-word, filled-zeros}

-- It depends on the masks alone, and takes products to sums of bits.
pub record Additive (word : Pauli → ℕ) : Type 0 where
  pub of_masks : (P Q : Pauli) → P.a ≡ Q.a → P.b ≡ Q.b → word P ≡ word Q
  pub of_product : (P Q : Pauli) → word (product P Q) ≡ bit_xor (word P) (word Q)

module _ (word : Pauli → ℕ) (additive : Additive word) where
  masks-word : ℕ → ℕ → ℕ
  masks-word a b = word (pauli 0 a b)

  adds : (a b a' b' : ℕ) → masks-word (bit_xor a a') (bit_xor b b') ≡ bit_xor (masks-word a b) (masks-word a' b')
  unfolding masks-word product
  adds a b a' b' =
      additive.of_masks (pauli 0 (bit_xor a a') (bit_xor b b')) (product (pauli 0 a b) (pauli 0 a' b')) refl refl
      ∙ additive.of_product (pauli 0 a b) (pauli 0 a' b')

  -- I is its own square.
  of-identity : masks-word 0 0 ≡ 0
  of-identity = adds 0 0 0 0 ∙ xor_self (masks-word 0 0)

  -- Y is the product of X and Z, phase aside.
  pub y-sum : (place : ℕ) → place < qubit_room
      → bit_xor (word (single_letter place X)) (word (single_letter place Z)) ≡ word (single_letter place Y)
  unfolding product
  y-sum place within =
      let x = masks-of-x place within in
      let y = masks-of-y place within in
      let z = masks-of-z place within in
      sym (additive.of_product (single_letter place X) (single_letter place Z))
      ∙ additive.of_masks (product (single_letter place X) (single_letter place Z)) (single_letter place Y)
      (ap₂ bit_xor x.of_x z.of_x ∙ xor_zero_r (2 ^ place) ∙ sym y.of_x)
      (ap₂ bit_xor x.of_z z.of_z ∙ sym y.of_z)

  module _ (n : ℕ) (few : n ≤ qubit_room) where
    -- The word of the letter numbered k at the qubit with m to its right and g to its left.
    letter-word : (g m k : ℕ) → k < 3 → g + suc m ≡ n
        → get_or (words_of word n) (3 * m + k) 0
        ≡ masks-word (x_bit (struck_letter k) * 2 ^ g) (z_bit (struck_letter k) * 2 ^ g)
    unfolding words_of letter_for masks-word
    letter-word g m k hk e =
        let l = struck_letter k in
        let masks = masks-of-single g (omega arith) l in
        filled-word (λ at. word (letter_for n at)) (3 * n) (3 * m + k) (omega arith) (omega arith)
        ∙ ap₂ (λ (place number : ℕ). word (single_letter place (struck_letter number))) (place g m k hk e)
        (number m k hk)
        ∙ additive.of_masks (single_letter g l) (pauli 0 (x_bit l * 2 ^ g) (z_bit l * 2 ^ g)) masks.of_x
        masks.of_z
      where
        place : (g m k : ℕ) → k < 3 → g + suc m ≡ n → n - 1 - (3 * m + k) / 3 ≡ g
        place g m k hk e = omega arith

        number : (m k : ℕ) → k < 3 → (3 * m + k) % 3 ≡ k
        number m k hk = omega arith

    is-table : IsTable masks-word of-identity adds (words_of word n) n
    unfolding word_at struck_letter
    is-table g m I e = rw zero-mul (sym of-identity)
    is-table g m X e =
        let first : 3 * m ≡ 3 * m + 0 = omega arith in
        ap (λ (i : ℕ). get_or (words_of word n) i 0) first ∙ letter-word g m 0 (omega arith) e
    is-table g m Y e = letter-word g m 1 (omega arith) e
    is-table g m Z e = letter-word g m 2 (omega arith) e

    pub words-sum : (s : List Letter) → length s ≡ n → sum_of (words_of word n) n s ≡ word (of_letters s)
    unfolding masks-word of_letters signed_row row_of
    words-sum s count =
        sum-of-table masks-word of-identity adds (words_of word n) n is-table s count
        ∙ additive.of_masks (pauli 0 (x_mask s) (z_mask s)) (of_letters s) refl refl

-- ---- syndromes

pub syndromes-additive : (rows : List Pauli) → Additive (syndrome_mask rows)
syndromes-additive rows = record {
  of_masks = syndrome-mask-of-masks rows;
  of_product = syndrome-mask-is-additive rows;
}

-- As many qubits have words as there is room for: all of a code that has no more.
pub all-qubits : (c : Code) → c.n ≤ qubit_room → word_qubits c ≡ c.n
unfolding word_qubits
all-qubits c few = omega arith

pub word-qubits-fit : (c : Code) → word_qubits c ≤ qubit_room
unfolding word_qubits
word-qubits-fit c = omega arith

-- The call searches the qubits that have words.
searched-words : (c : Code) → min (word_qubits c) qubit_room ≡ word_qubits c
searched-words c = omega (arith, word-qubits-fit c)

pub searched-qubits : (c : Code) → c.n ≤ qubit_room → min (word_qubits c) qubit_room ≡ c.n
searched-qubits c few = searched-words c ∙ all-qubits c few

module _ (c : Code) (s : List Letter) (count : length s ≡ word_qubits c) where
  syndromes-sum : sum_of (syndrome_words c).first (word_qubits c) s ≡ syndrome_mask (generators c) (of_letters s)
  unfolding syndrome_words
  syndromes-sum =
      words-sum (syndrome_mask (generators c)) (syndromes-additive (generators c)) (word_qubits c) (word-qubits-fit c) s
      count

  zeros-sum : sum_of (syndrome_words c).second (word_qubits c) s ≡ 0
  unfolding syndrome_words words_of
  zeros-sum =
      ap (λ words. sum_of words (word_qubits c) s) (filled-zeros (3 * word_qubits c))
      ∙ words-sum (λ P. 0) (record { of_masks = λ P Q a b. refl; of_product = λ P Q. refl }) (word_qubits c)
      (word-qubits-fit c) s count

  passes-syndrome : (want : ℕ)
      → passes (syndrome_words c).first (syndrome_words c).second (word_qubits c) want 1 s
      ≡ eqb (syndrome_mask (generators c) (of_letters s)) want
  unfolding passes sums_to
  passes-syndrome want =
      ap₂ (λ (first second : ℕ). eqb first want && not (eqb second 1)) syndromes-sum zeros-sum
      ∙ and-true (eqb (syndrome_mask (generators c) (of_letters s)) want)

-- The same of strings of n letters.
pub syndromes-sum-on : (c : Code) → c.n ≤ qubit_room → (s : List Letter) → length s ≡ c.n
    → sum_of (syndrome_words c).first c.n s ≡ syndrome_mask (generators c) (of_letters s)
syndromes-sum-on c few s count =
    let all = all-qubits c few in
    ap (λ (n : ℕ). sum_of (syndrome_words c).first n s) (sym all) ∙ syndromes-sum c s (count ∙ sym all)

module _ (c : Code) (t want : ℕ) where
  finds-syndrome : earliest_up_to (syndrome_words c).first (syndrome_words c).second (word_qubits c) t want 1
      ≡ earliest_with c t want
  unfolding earliest_up_to earliest_with
  finds-syndrome =
      same-search _ _ (strings_up_to (word_qubits c) t) (strings_up_to-listed (word_qubits c) t)
      (λ s meets. passes-syndrome c s meets.0 want)

  call-finds-syndrome : earliest_by (syndrome_words c) t want 1 ≡ found_as (earliest_with c t want)
  unfolding earliest_by syndrome_words
  call-finds-syndrome =
      let words = syndrome_words c in
      ap (λ (n : ℕ). found_as (earliest_up_to words.first words.second n t want 1)) (searched-words c)
      ∙ ap found_as finds-syndrome

pub syndromes-are-summed : SyndromesAreSummed
syndromes-are-summed c = record {
  first = syndromes-sum c;
  second = zeros-sum c;
  found = finds-syndrome c;
  call = call-finds-syndrome c;
}
