-- What is stated of letters, masks, syndromes and the order.
use Rattle.std.specs.Prelude.{Some, None}
use Rattle.std.specs.Prelude.{Bool, true, ◌⊎◌, ◌↔◌, ◌≡◌, ℕ, ◌^◌, ◌≤◌, ◌<◌, length}
use mathlib.Core.List.{List, Mem, Nodup, Pairwise}
use Rattle.std.specs.Int.Bits.{bit_xor}
use Rattle.pauli.specs.declared.Pauli.{Pauli}
use Rattle.letters.specs.declared.Letter.{Letter}
use Rattle.letters.specs.declared.Sign.{Sign}
use Rattle.pauli.specs.Letters.{signed_row, of_letters, letters_of, x_mask, z_mask}
use Rattle.letters.specs.Lists.{first_of, passing}
use Rattle.pauli.specs.Order.{weight_of, Earlier, strings, strings_up_to}
use Rattle.pauli.specs.Product.{product, weight}
use Rattle.pauli.specs.Syndrome.{syndrome_mask}

-- ---- letters and masks

-- Letters to masks and back.
abbrev pub LettersReturn : Type 0
LettersReturn = (sign : Sign) (s : List Letter) → letters_of (length s) (signed_row sign s) ≡ s

-- Masks to letters and back.
abbrev pub MasksReturn : Type 0
MasksReturn =
    (n : ℕ) (P : Pauli) → P.a < 2 ^ n → P.b < 2 ^ n → (x_mask (letters_of n P) ≡ P.a) × (z_mask (letters_of n P) ≡ P.b)

-- A Pauli's weight, from its masks, is that of its letters.
abbrev pub WeightCountsLetters : Type 0
WeightCountsLetters = (s : List Letter) → weight (of_letters s) ≡ weight_of s

-- ---- syndromes

-- The syndrome of a product, as a mask, is the sum of the two syndromes, bit by bit, whatever the rows.
abbrev pub SyndromeMaskIsAdditive : Type 0
SyndromeMaskIsAdditive =
    (rows : List Pauli) (P Q : Pauli)
    → syndrome_mask rows (product P Q) ≡ bit_xor (syndrome_mask rows P) (syndrome_mask rows Q)

-- ---- the order

-- `Earlier` is a strict order, total on strings of one length.
pub record EarlierIsStrictTotalOrder : Type 0 where
  pub irreflexive : (s : List Letter) → Earlier s s → ⊥
  pub transitive : (s t u : List Letter) → Earlier s t → Earlier t u → Earlier s u
  pub total : (s t : List Letter) → length s ≡ length t → (s ≡ t) ⊎ Earlier s t ⊎ Earlier t s

-- ---- lists of strings in an order, and the first string that passes a test

abbrev pub StringOrder : Type 1
StringOrder = List Letter → List Letter → Type 0

-- The list has exactly the strings that meet the condition, each once, in the order.
pub record Listed (Before : StringOrder) (Condition : List Letter → Type 0) (list : List (List Letter)) : Type 0 where
  pub exactly : (s : List Letter) → Mem s list ↔ Condition s
  pub once : Nodup list
  pub increasing : Pairwise Before list

abbrev pub StringsAreListed : Type 0
StringsAreListed = (n v : ℕ) → Listed Earlier (λ s. (length s ≡ n) × (weight_of s ≡ v)) (strings n v)

abbrev pub StringsUpToAreListed : Type 0
StringsUpToAreListed = (n t : ℕ) → Listed Earlier (λ s. (length s ≡ n) × (weight_of s ≤ t)) (strings_up_to n t)

-- The string meets the condition and passes the test, and stands before every other that does.
pub record FirstBy
    (Before : StringOrder) (Condition : List Letter → Type 0) (test : List Letter → Bool) (s : List Letter) : Type 0
  where
    pub meets : Condition s
    pub passes : test s ≡ true
    pub first : (t : List Letter) → Condition t → test t ≡ true → (t ≡ s) ⊎ Before s t

-- A search through such a list finds the first of those that meet the condition and pass the test, and finds none only
-- where there is none; and those of the list that pass are such a list too.
pub record Searched (Before : StringOrder) (Condition : List Letter → Type 0) (list : List (List Letter)) : Type 0
  where
    pub found : (test : List Letter → Bool) (s : List Letter) → first_of test list ≡ Some s
        → FirstBy Before Condition test s
    pub missing : (test : List Letter → Bool) → first_of test list ≡ None
        → (t : List Letter) → Condition t → test t ≡ true → ⊥
    pub filtered : (test : List Letter → Bool) → Listed Before (λ s. Condition s × (test s ≡ true)) (passing test list)

abbrev pub ListsAreSearched : Type 1
ListsAreSearched =
    (Before : StringOrder) (Condition : List Letter → Type 0) (list : List (List Letter)) → Listed Before Condition list
    → Searched Before Condition list
