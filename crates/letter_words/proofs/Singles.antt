-- A letter on one qubit: its masks.
use mathlib.Core.Path.{◌≡◌, ◌∙◌}
use Prim.Native.Nat.{ℕ, ◌*◌, ◌%◌, ◌^◌, ◌<◌}
use native.Mathlib.Nat.{zero-mul, one-mul}
use native.Mathlib.Omega.{arith}
use lib.Pow.{shl_exact}
use Rattle.letters.specs.declared.Letter.{Letter}
use Rattle.letters.specs.declared.Letter.TheVariants.{X, Y, Z}
use Rattle.letters.specs.Letters.{x_bit, z_bit}
use Rattle.pauli.specs.declared.Pauli.{Pauli}
use Rattle.pauli.specs.Letters.{row_of}
use Rattle.pauli.proofs.Letters.{x_bit-lt, z_bit-lt}
use Rattle.letter_words.specs.Words.{single_letter}

pub record HasMasks (P : Pauli) (a b : ℕ) : Type 0 where
  pub of_x : P.a ≡ a
  pub of_z : P.b ≡ b

module _ (place : ℕ) (within : place < 32) where
  bit-within : (x : ℕ) → x < 2 → x * 2 ^ place % 2 ^ 32 ≡ x * 2 ^ place
  bit-within x h = shl_exact 1 place 32 h (omega arith)

  pub masks-of-single : (l : Letter) → HasMasks (single_letter place l) (x_bit l * 2 ^ place) (z_bit l * 2 ^ place)
  unfolding single_letter row_of
  masks-of-single l = record { of_x = bit-within (x_bit l) (x_bit-lt l); of_z = bit-within (z_bit l) (z_bit-lt l) }

  abbrev bit : ℕ
  bit = 2 ^ place

  pub masks-of-x : HasMasks (single_letter place X) (2 ^ place) 0
  masks-of-x =
      let masks = masks-of-single X in record { of_x = masks.of_x ∙ one-mul bit; of_z = masks.of_z ∙ zero-mul bit }

  pub masks-of-y : HasMasks (single_letter place Y) (2 ^ place) (2 ^ place)
  masks-of-y =
      let masks = masks-of-single Y in record { of_x = masks.of_x ∙ one-mul bit; of_z = masks.of_z ∙ one-mul bit }

  pub masks-of-z : HasMasks (single_letter place Z) 0 (2 ^ place)
  masks-of-z =
      let masks = masks-of-single Z in record { of_x = masks.of_x ∙ zero-mul bit; of_z = masks.of_z ∙ one-mul bit }
