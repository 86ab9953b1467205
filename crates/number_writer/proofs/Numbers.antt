-- The line of a number: its digits are those of its tenth and one more, behind the key. And what the call for one
-- number answers.
use Rattle.std.specs.Prelude.{Ok}
use mathlib.Core.Bool.{Bool, true, false}
use mathlib.Core.List.{List, [], ◌∷◌, ◌++◌}
use mathlib.Core.Path.{◌≡◌, refl, ap, sym, ◌∙◌}
use Prim.Native.Char.{code}
use Prim.Native.Nat.{ℕ, zero, suc, ◌+◌, ◌/◌, ◌%◌, ◌≤◌}
use native.Mathlib.Decide.{dec_lt}
use native.Mathlib.Omega.{arith}
use lib.Dec.{ltb}
use lib.ListN.{length, length-append}
use Rattle.sheet.specs.Text.{line_feed, digits_of, decimal, laid}
use Rattle.sheet.proofs.Lengths.{decimal-snoc, length-decimal-one}
use Rattle.sheet.proofs.WrittenText.{written-whole}
use Rattle.number_writer.specs.Lines.{number_text, write_number}

-- ---- how many digits

length-digits_of-le : (k m : ℕ) → length (digits_of k m) ≤ k
unfolding digits_of
length-digits_of-le zero m = omega arith
length-digits_of-le (suc k) m = go (ltb m 10) (length-digits_of-le k (m / 10))
  where
    go : (one : Bool) → length (digits_of k (m / 10)) ≤ k
        → length {A = ℕ}
        (elim one [ true ↦ (code "0" + m) ∷ [] | false ↦ digits_of k (m / 10) ++ (code "0" + m % 10) ∷ [] ])
        ≤ suc k
    go true few = omega arith
    go false few = simp length-append (omega arith)

pub length-decimal-snoc : (m : ℕ) → 10 ≤ m → length (decimal m) ≡ length (decimal (m / 10)) + 1
length-decimal-snoc m h = ap length (decimal-snoc m h) ∙ length-append (decimal (m / 10)) _

-- Few enough for a machine's number to count them, and one more.
pub length-decimal-le : (m : ℕ) → length (decimal m) ≤ m / 10 + 2
unfolding decimal
length-decimal-le m = elim (dec_lt m 10) [
  | yes h ↦ omega (arith, length-decimal-one m h)
  | no h ↦ omega (arith, length-decimal-snoc m (omega arith), length-digits_of-le (suc (m / 10)) (m / 10))
]

-- ---- the line

module _ (key : List ℕ) (m : ℕ) where
  pub number-text : (key ++ decimal m) ++ 10 ∷ [] ≡ number_text key m
  unfolding number_text line_feed
  number-text = refl

  pub length-number_text : length (number_text key m) ≡ length key + length (decimal m) + 1
  length-number_text =
      ap length (sym number-text) ∙ length-append (key ++ decimal m) (10 ∷ [])
      ∙ ap (λ (k : ℕ). k + 1) (length-append key (decimal m))

  module _ (buffer : List ℕ) where
    pub number-has-room : length (number_text key m) ≤ length buffer → write_number key m buffer
        ≡ record { answer = Ok (length (number_text key m)); buffer = laid (number_text key m) buffer }
    unfolding write_number
    number-has-room = written-whole _ _ refl
