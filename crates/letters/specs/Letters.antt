-- Letters and signs: their bits and phases, and the bytes that they are written as.
use Rattle.std.specs.Prelude.{Option, [], ◌∷◌, ℕ, zero, suc}
use Prim.Native.Char.{code}
use Rattle.letters.specs.declared.Letter.{Letter}
use Rattle.letters.specs.declared.Letter.TheVariants.{I, X, Y, Z}
use Rattle.letters.specs.declared.Sign.{Sign}
use Rattle.letters.specs.declared.Sign.TheVariants.{Plus, Minus}
use Rattle.letters.specs.Lists.{read_byte}

-- RULES, "Letters and rows": the letter of a qubit, by its bits in the X mask and in the Z mask.
unfoldable pub letter_at : ℕ → ℕ → Letter
letter_at zero zero = I
letter_at (suc a) zero = X
letter_at zero (suc b) = Z
letter_at (suc a) (suc b) = Y

-- The other way round: a letter's bit in the X mask, and in the Z mask.
abbrev pub x_bit : Letter → ℕ
x_bit I = 0
x_bit X = 1
x_bit Y = 1
x_bit Z = 0

abbrev pub z_bit : Letter → ℕ
z_bit I = 0
z_bit X = 0
z_bit Y = 1
z_bit Z = 1

-- The letters other than I in their order, by number: X, Y, Z are 0, 1, 2.
unfoldable pub struck_letter : ℕ → Letter
struck_letter zero = X
struck_letter (suc zero) = Y
struck_letter (suc (suc k)) = Z

-- RULES, "Letters and rows": what a sign adds to the phase of a row.
abbrev pub sign_phase : Sign → ℕ
sign_phase Plus = 0
sign_phase Minus = 2

-- Letters and signs as bytes.
abbrev pub letter_byte : Letter → ℕ
letter_byte I = code "I"
letter_byte X = code "X"
letter_byte Y = code "Y"
letter_byte Z = code "Z"

unfoldable pub read_letter : ℕ → Option Letter
read_letter = read_byte letter_byte (I ∷ X ∷ Y ∷ Z ∷ [])

abbrev pub sign_byte : Sign → ℕ
sign_byte Plus = code "+"
sign_byte Minus = code "-"

unfoldable pub read_sign : ℕ → Option Sign
read_sign = read_byte sign_byte (Plus ∷ Minus ∷ [])
