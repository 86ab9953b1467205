-- Every definition of Paulis and of the crate below them that computes, to be unfolded at once where an example is
-- computed: a proof that says `unfolding definitions` unfolds all that is named below.
use Rattle.std.proofs.Math.Bool.{xor}
use mathlib.Core.List.{flat_map, zip_with}
use Rattle.letters.specs.Definitions.{definitions as definitions-letters}
use Rattle.pauli.specs.Masks.{ones_among, count_ones, dot, bits}
use Rattle.pauli.specs.Product.{product, negated, inverse, symplectic, commutes, anticommutes, weight, same_masks}
use Rattle.pauli.specs.Product.{modulo4, has_phase, same_pauli}
use Rattle.pauli.specs.Syndrome.{syndrome, add_bits, mask_of_bits, syndrome_mask}
use Rattle.pauli.specs.Letters.{letters_at, letters_of, letter_on, mask_of, x_mask, z_mask, count_y, row_phase, row_of}
use Rattle.pauli.specs.Letters.{signed_row, of_letters, has_sign, is_signed_row, sign_of, letter_text, row_text}
use Rattle.pauli.specs.Order.{rank, letter_weight, weight_of, strings, strings_up_to}

unfoldable pub definitions : Unit {0}
unfolding ones_among count_ones dot bits product negated inverse symplectic commutes anticommutes weight same_masks
    modulo4 has_phase same_pauli syndrome add_bits mask_of_bits syndrome_mask letters_at letters_of letter_on mask_of
    x_mask z_mask count_y row_phase row_of signed_row of_letters has_sign is_signed_row sign_of letter_text row_text
    rank letter_weight weight_of strings strings_up_to flat_map zip_with xor definitions-letters
definitions = tt
