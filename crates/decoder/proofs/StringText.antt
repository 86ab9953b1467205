-- A string's text can be had from its Pauli.
use mathlib.Core.List.{List, map}
use mathlib.Core.Path.{◌≡◌, ap, sym, ◌∙◌}
use Prim.Native.Nat.{ℕ}
use lib.ListN.{length}
use Rattle.letters.specs.declared.Letter.{Letter}
use Rattle.letters.specs.declared.Sign.TheVariants.{Plus}
use Rattle.letters.specs.Letters.{letter_byte}
use Rattle.pauli.specs.Letters.{of_letters, letters_of, letter_text}
use Rattle.pauli.proofs.Letters.{letters-return}

-- The letters of a string's Pauli are the string.
pub string-text : (n : ℕ) (s : List Letter) → length s ≡ n → letter_text n (of_letters s) ≡ map letter_byte s
unfolding letter_text of_letters
string-text n s count =
    ap (λ (n : ℕ). map letter_byte (letters_of n (of_letters s))) (sym count)
    ∙ ap (map letter_byte) (letters-return Plus s)
