-- The words of the letters at one qubit, of the generators from a place on: the bits of the generator before that place
-- are joined to them, until all generators are passed.
use mathlib.Core.Path.{◌≡◌, ap, ap₂, sym, ◌∙◌}
use Prim.Native.Nat.{ℕ, ◌+◌, ◌-◌, ◌*◌, ◌/◌, ◌%◌, ◌^◌, ◌<◌, ◌≤◌}
use native.Mathlib.Nat.{pow-le-pow_right}
use native.Mathlib.Omega.{arith}
use lib.Bits.{bit_xor}
use lib.ListN.{length, drop, get_or, length-take, drop_of_length-le}
use Rattle.letters.specs.declared.Letter.{Letter}
use Rattle.letters.specs.declared.Letter.TheVariants.{X, Y, Z}
use Rattle.pauli.specs.declared.Pauli.{Pauli}
use Rattle.pauli.specs.Product.{identity, symplectic}
use Rattle.pauli.specs.Syndrome.{syndrome, mask_of_bits, syndrome_mask}
use Rattle.pauli.proofs.Undetected.{syndrome-mask-lt}
use Rattle.code_record.specs.declared.Code.{Code}
use Rattle.code_record.specs.Record.{row_room, generators}
use Rattle.letter_sums.specs.Sums.{qubit_room}
use Rattle.syndrome_mask.proofs.RowBits.{mask-before, mask-room}
use Rattle.letter_words.specs.Words.{single_letter}
use Rattle.letter_words.proofs.LetterBits.{x-bit, z-bit}
use Rattle.letter_words.proofs.Sums.{y-sum, syndromes-additive}

-- The word of a letter, of the generators from a place on.
abbrev word_from : Code → ℕ → ℕ → Letter → ℕ
word_from code qubit place l = syndrome_mask (drop place (generators code)) (single_letter qubit l)

-- The words of Z and X, as the low half and the high half of one number.
pub record WordsFrom (code : Code) (qubit place both : ℕ) : Type 0 where
  pub within : qubit < qubit_room
  pub few : place ≤ row_room
  pub inside : place ≤ length (generators code)
  pub halves : both ≡ word_from code qubit place Z + 2 ^ 32 * word_from code qubit place X

-- Behind the last generator there are no bits.
pub none_read : (code : Code) (qubit : ℕ) → qubit < qubit_room → length code.g ≡ row_room → {count : ℕ}
    → count ≡ length (generators code) → WordsFrom code qubit count 0
unfolding syndrome_mask syndrome mask_of_bits generators
none_read code qubit within room {count} all = record {
  within = within;
  few = omega (arith, length-take code.r code.g);
  inside = omega arith;
  halves = omega (arith, none X, none Z);
}
  where
    none : (l : Letter) → 0 ≡ word_from code qubit count l
    none l =
        let behind : length (generators code) ≤ count = omega arith in
        ap (λ rows. syndrome_mask rows (single_letter qubit l)) (sym (drop_of_length-le (generators code) behind))

module _ {code : Code} {qubit place both : ℕ} (words : WordsFrom code qubit place both)
    (room : length code.g ≡ row_room) (some : 0 < place) where
  -- Each half can be doubled, and one bit more joined to it.
  pub both_small : both ≤ 4294967297 * (2 ^ 31 - 1)
  unfolding generators
  both_small =
      let of_x = mask-room code.r code.g place (single_letter qubit X) room some in
      let of_z = mask-room code.r code.g place (single_letter qubit Z) room some in omega (arith, words.halves)

  row : Pauli
  row = get_or code.g (place - 1) identity

  longer : (l : Letter) {bit : ℕ} → symplectic row (single_letter qubit l) ≡ bit
      → 2 * word_from code qubit place l + bit ≡ word_from code qubit (place - 1) l
  unfolding row generators
  longer l read =
      ap (λ (b : ℕ). 2 * word_from code qubit place l + b) (sym read)
      ∙ mask-before code.r code.g place (single_letter qubit l) some words.inside

  pub one-more-read : {bits : ℕ} → let g = get_or code.g (place - 1) identity in
      bits ≡ g.a / 2 ^ qubit % 2 + 2 ^ 32 * (g.b / 2 ^ qubit % 2)
      → WordsFrom code qubit (place - 1) (2 * both + bits)
  unfolding row
  one-more-read read =
      let of_x = longer X (x-bit qubit words.within row) in
      let of_z = longer Z (z-bit qubit words.within row) in
      record {
        within = words.within;
        few = omega (arith, words.few);
        inside = omega (arith, words.inside);
        halves = omega (arith, words.halves);
      }

-- All generators are passed.
module _ {code : Code} {qubit place both : ℕ} (words : WordsFrom code qubit place both)
    (room : length code.g ≡ row_room) (first : place ≡ 0) where
  abbrev word : Letter → ℕ
  word l = syndrome_mask (generators code) (single_letter qubit l)

  whole : (l : Letter) → word_from code qubit place l ≡ word l
  whole l = ap (λ (i : ℕ). word_from code qubit i l) first

  -- A word has no more bits than there is room for rows.
  word_fits : (l : Letter) → word l < 2 ^ 32
  unfolding generators
  word_fits l =
      let few : length (generators code) ≤ 32 = omega (arith, length-take code.r code.g) in
      omega (
        arith,
        syndrome-mask-lt (generators code) (single_letter qubit l),
        pow-le-pow_right {n = 2} (omega arith) few,
      )

  pub x-read : both / 2 ^ 32 ≡ word X
  x-read = omega (arith, words.halves, whole X, whole Z, word_fits Z)

  pub z-read : both % 2 ^ 32 ≡ word Z
  z-read = omega (arith, words.halves, whole X, whole Z, word_fits Z)

  pub y-read : bit_xor (both / 2 ^ 32) (both % 2 ^ 32) ≡ word Y
  y-read = ap₂ bit_xor x-read z-read
      ∙ y-sum (syndrome_mask (generators code)) (syndromes-additive (generators code)) qubit words.within
