-- The letters and the sign of a Pauli: how it is written.
use Rattle.std.specs.Prelude.{Bool, cond, ◌||◌, List, [], ◌∷◌, map, ℕ, zero, suc, ◌+◌, ◌*◌, ◌/◌, ◌%◌, ◌^◌}
use Rattle.pauli.specs.declared.Pauli.{Pauli}
use Rattle.letters.specs.declared.Letter.{Letter}
use Rattle.letters.specs.declared.Letter.TheVariants.{I, X, Y, Z}
use Rattle.letters.specs.declared.Sign.{Sign}
use Rattle.letters.specs.declared.Sign.TheVariants.{Plus, Minus}
use Rattle.letters.specs.Letters.{letter_at, x_bit, z_bit, sign_phase, letter_byte, sign_byte}
use Rattle.pauli.specs.Masks.{dot}
use Rattle.pauli.specs.Product.{has_phase}

-- The n letters of two masks, and of a Pauli; qubit 1 first.
unfoldable pub letters_at : ℕ → ℕ → ℕ → List Letter
letters_at zero a b = []
letters_at (suc n) a b = letter_at (a % 2) (b % 2) ∷ letters_at n (a / 2) (b / 2)

unfoldable pub letters_of : ℕ → Pauli → List Letter
letters_of n P = letters_at n P.a P.b

-- The letter of a Pauli at one qubit. Places count from 0, as bits do: place j is qubit j + 1.
unfoldable pub letter_on : ℕ → Pauli → Letter
letter_on j P = letter_at (P.a / 2 ^ j % 2) (P.b / 2 ^ j % 2)

-- The masks of a string of letters.
unfoldable pub mask_of : (Letter → ℕ) → List Letter → ℕ
mask_of bit [] = 0
mask_of bit (l ∷ ls) = bit l + 2 * mask_of bit ls

unfoldable pub x_mask : List Letter → ℕ
x_mask ls = mask_of x_bit ls

unfoldable pub z_mask : List Letter → ℕ
z_mask ls = mask_of z_bit ls

-- How many letters are Y.
unfoldable pub count_y : List Letter → ℕ
count_y [] = 0
count_y (I ∷ ls) = count_y ls
count_y (X ∷ ls) = count_y ls
count_y (Y ∷ ls) = suc (count_y ls)
count_y (Z ∷ ls) = count_y ls

-- RULES, "Letters and rows": the phase of a signed row is a·b modulo 4, and for - two more.
unfoldable pub row_phase : Sign → ℕ → ℕ → ℕ
row_phase s a b = (dot a b + sign_phase s) % 4

unfoldable pub row_of : Sign → ℕ → ℕ → Pauli
row_of s a b = record { p = row_phase s a b; a = a; b = b }

unfoldable pub signed_row : Sign → List Letter → Pauli
signed_row s ls = row_of s (x_mask ls) (z_mask ls)

-- A string of letters as a Pauli, with sign +.
unfoldable pub of_letters : List Letter → Pauli
of_letters ls = signed_row Plus ls

unfoldable pub has_sign : Sign → Pauli → Bool
has_sign s P = has_phase (row_phase s P.a P.b) P

unfoldable pub is_signed_row : Pauli → Bool
is_signed_row P = has_sign Plus P || has_sign Minus P

-- The sign of a signed row.
unfoldable pub sign_of : Pauli → Sign
sign_of P = cond (has_sign Plus P) Plus Minus

-- The n letters of a Pauli as bytes, as w and a correction are written, and with the sign first, as a row is.
unfoldable pub letter_text : ℕ → Pauli → List ℕ
letter_text n P = map letter_byte (letters_of n P)

unfoldable pub row_text : ℕ → Pauli → List ℕ
row_text n P = sign_byte (sign_of P) ∷ letter_text n P
