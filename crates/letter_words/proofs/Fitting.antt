-- The sets of qubits at which letters have a syndrome. Of the generators from a place on they are known; with the one
-- before that place those qubits stay whose letter has its bit, until all generators are passed.
use mathlib.Core.Bool.{cond, ◌&&◌}
use mathlib.Core.List.{[]}
use mathlib.Core.Path.{◌≡◌, refl, ap, ap₂, subst, sym, ◌∙◌}
use Prim.Native.Nat.{ℕ, suc, ◌+◌, ◌-◌, ◌*◌, ◌/◌, ◌%◌, ◌^◌, ◌<◌, ◌≤◌}
use native.Mathlib.Decide.{ℕ_discrete}
use native.Mathlib.Nat.{zero-div, div-one}
use native.Mathlib.Omega.{arith}
use borrow.Author.Tests.{eq-eqb, ne_eqb}
use lib.Bits.{bit_and, bit_xor, and_shr, xor_shr}
use lib.Dec.{eqb}
use lib.ListN.{length, drop, get_or, length-take, drop_of_length-le}
use lib.Pow.{pow_pos, shr-shr, ones_split, ones_lt, high}
use Rattle.letters.specs.declared.Letter.{Letter}
use Rattle.letters.specs.declared.Letter.TheVariants.{X, Y, Z}
use Rattle.pauli.specs.declared.Pauli.{Pauli}
use Rattle.pauli.specs.Product.{identity, symplectic}
use Rattle.pauli.specs.Syndrome.{syndrome, mask_of_bits, syndrome_mask}
use Rattle.pauli.proofs.Masks.{digit, xor_low, and_low}
use Rattle.code_record.specs.declared.Code.{Code}
use Rattle.code_record.specs.Record.{row_room, generators}
use Rattle.letter_sums.specs.Sums.{qubit_room}
use Rattle.syndrome_mask.proofs.RowBits.{mask-before}
use Rattle.letter_words.specs.Words.{single_letter}
use Rattle.letter_words.specs.Lone.{having, HasAt, AreCandidates}
use Rattle.letter_words.proofs.LetterBits.{x-bit, y-bit, z-bit}

-- ---- one qubit

abbrev bit_of : ℕ → ℕ → ℕ
bit_of mask qubit = mask / 2 ^ qubit % 2

-- All bits of a full mask are ones.
full-bit : (qubit : ℕ) → qubit < 32 → bit_of 4294967295 qubit ≡ 1
full-bit qubit within =
    let above = 31 - qubit in
    let whole : 4294967295 ≡ 2 ^ (suc above + qubit) - 1 =
    ap (λ (k : ℕ). 2 ^ k - 1) {x = 32} {y = suc above + qubit} (omega arith) in
    ap (λ (x : ℕ). x / 2 ^ qubit % 2) (whole ∙ ones_split (suc above) qubit)
    ∙ ap (λ (x : ℕ). x % 2) (high (2 ^ suc above - 1) qubit (ones_lt qubit))
    ∙ odd above
  where
    odd : (k : ℕ) → (2 ^ suc k - 1) % 2 ≡ 1
    odd k = omega (arith, pow_pos k)

-- A qubit stays if it was there and has the wanted bit.
having-bit : (set mask want qubit : ℕ) → qubit < 32
    → eqb (bit_of (having set mask (want % 2)) qubit) 1
    ≡ (eqb (bit_of set qubit) 1 && eqb (bit_of mask qubit) (want % 2))
having-bit set mask want qubit within =
    digit
    (λ (w : ℕ). eqb (bit_of (having set mask w) qubit) 1 ≡ (eqb (bit_of set qubit) 1 && eqb (bit_of mask qubit) w))
    (ap (λ (b : ℕ). eqb b 1) (turned_bit 4294967295 1 (full-bit qubit within))
    ∙ both (λ (s m : ℕ). eqb (bit_and s (bit_xor m 1)) 1 ≡ (eqb s 1 && eqb m 0)) refl refl refl refl)
    (ap (λ (b : ℕ). eqb b 1) (turned_bit 0 0 (ap (λ (x : ℕ). x % 2) (zero-div (2 ^ qubit))))
    ∙ both (λ (s m : ℕ). eqb (bit_and s (bit_xor m 0)) 1 ≡ (eqb s 1 && eqb m 1)) refl refl refl refl) want
  where
    both : (P : ℕ → ℕ → Type 0) → P 0 0 → P 0 1 → P 1 0 → P 1 1 → P (bit_of set qubit) (bit_of mask qubit)
    both P p00 p01 p10 p11 =
        digit (λ (s : ℕ). P s (bit_of mask qubit)) (digit (P 0) p00 p01 (mask / 2 ^ qubit))
        (digit (P 1) p10 p11 (mask / 2 ^ qubit)) (set / 2 ^ qubit)

    turned_bit : (turned bit : ℕ) → bit_of turned qubit ≡ bit
        → bit_of (bit_and set (bit_xor mask turned)) qubit ≡ bit_and (bit_of set qubit)
        (bit_xor (bit_of mask qubit) bit)
    turned_bit turned bit e =
        ap (λ (x : ℕ). x % 2) (and_shr set (bit_xor mask turned) qubit)
        ∙ and_low (set / 2 ^ qubit) (bit_xor mask turned / 2 ^ qubit)
        ∙ ap (bit_and (bit_of set qubit))
        (ap (λ (x : ℕ). x % 2) (xor_shr mask turned qubit) ∙ xor_low (mask / 2 ^ qubit) (turned / 2 ^ qubit)
        ∙ ap (bit_xor (bit_of mask qubit)) e)

-- A word and a bit that are joined are compared apart.
compared-apart : (word bit want : ℕ) → bit < 2
    → (eqb word (want / 2) && eqb bit (want % 2)) ≡ eqb (2 * word + bit) want
compared-apart word bit want small = elim (ℕ_discrete word (want / 2)) [
  | yes w ↦ elim (ℕ_discrete bit (want % 2)) [
    | yes b ↦ ap₂ ◌&&◌ (eq-eqb word (want / 2) w) (eq-eqb bit (want % 2) b) ∙ sym (eq-eqb joined want (omega arith))
    | no b ↦
        ap₂ ◌&&◌ (eq-eqb word (want / 2) w) (ne_eqb bit (want % 2) b)
        ∙ sym (ne_eqb joined want (λ e. b (omega arith)))
  ]
  | no w ↦
      ap (λ t. t && eqb bit (want % 2)) (ne_eqb word (want / 2) w) ∙ sym (ne_eqb joined want (λ e. w (omega arith)))
]
  where
    joined : ℕ
    joined = 2 * word + bit

-- ---- one letter

-- Of no rows a letter has the syndrome 0 everywhere.
none_passed : (l : Letter) (want set : ℕ) → set ≡ cond (eqb want 0) 4294967295 0 → HasAt [] want l set
unfolding HasAt syndrome_mask syndrome mask_of_bits
none_passed l want set e qubit within = elim (ℕ_discrete want 0) [
  | yes w ↦
      ap (λ (s : ℕ). eqb (bit_of s qubit) 1) (e ∙ ap (λ t. cond t 4294967295 0) (eq-eqb want 0 w))
      ∙ ap (λ (b : ℕ). eqb b 1) (full-bit qubit within) ∙ sym (eq-eqb 0 want (sym w))
  | no w ↦
      ap (λ (s : ℕ). eqb (bit_of s qubit) 1) (e ∙ ap (λ t. cond t 4294967295 0) (ne_eqb want 0 w))
      ∙ ap (λ (x : ℕ). eqb (x % 2) 1) (zero-div (2 ^ qubit)) ∙ sym (ne_eqb 0 want (λ z. w (sym z)))
]

module _ (code : Code) (place want : ℕ) (some : 0 < place) (inside : place ≤ length (generators code)) where
  abbrev row : Pauli
  row = get_or code.g (place - 1) identity

  abbrev wanted_bit : ℕ
  wanted_bit = want / 2 ^ (place - 1) % 2

  halved : want / 2 ^ (place - 1) / 2 ≡ want / 2 ^ place
  halved = shr-shr want (place - 1) 1 ∙ ap (λ (k : ℕ). want / 2 ^ k) (omega arith)

  one-more-passed : (l : Letter) (mask : ℕ)
      → ((qubit : ℕ) → qubit < qubit_room → symplectic row (single_letter qubit l) ≡ bit_of mask qubit)
      → (set : ℕ) → HasAt (drop place (generators code)) (want / 2 ^ place) l set
      → HasAt (drop (place - 1) (generators code)) (want / 2 ^ (place - 1)) l (having set mask wanted_bit)
  unfolding HasAt generators
  one-more-passed l mask read set has qubit within =
      let P = single_letter qubit l in
      let word = syndrome_mask (drop place (generators code)) P in
      let next = want / 2 ^ (place - 1) in
      having-bit set mask next qubit within
      ∙ ap₂ ◌&&◌ (has qubit within ∙ ap (eqb word) (sym halved))
      (ap (λ (b : ℕ). eqb b wanted_bit) (sym (read qubit within)))
      ∙ compared-apart word (symplectic row P) next (omega (arith, read qubit within))
      ∙ ap (λ (m : ℕ). eqb m next) (mask-before code.r code.g place P some inside)

-- ---- all three

pub record Passed (code : Code) (want place x y z : ℕ) : Type 0 where
  pub few : place ≤ row_room
  pub inside : place ≤ length (generators code)
  pub sets : AreCandidates (drop place (generators code)) (want / 2 ^ place) (record { x = x; y = y; z = z })

pub at-the-end : (code : Code) (want count all : ℕ) → length code.g ≡ row_room → count ≡ length (generators code)
    → all ≡ cond (eqb (want / 2 ^ count) 0) 4294967295 0 → Passed code want count all all all
unfolding generators
at-the-end code want count all room whole e = record {
  few = omega (arith, length-take code.r code.g);
  inside = omega arith;
  sets = record { of_x = none X; of_y = none Y; of_z = none Z };
}
  where
    none : (l : Letter) → HasAt (drop count (generators code)) (want / 2 ^ count) l all
    none l =
        let behind : length (generators code) ≤ count = omega arith in
        rw (drop_of_length-le (generators code) behind) (none_passed l (want / 2 ^ count) all e)

module _ {code : Code} {want place x y z : ℕ} (passed : Passed code want place x y z) where
  pub one_more : 0 < place
      → let row = get_or code.g (place - 1) identity in
      let bit = want / 2 ^ (place - 1) % 2 in
      Passed code want (place - 1) (having x row.b bit) (having y (bit_xor row.a row.b) bit)
      (having z row.a bit)
  one_more some =
      let row = get_or code.g (place - 1) identity in
      let sets = passed.sets in
      record {
        few = omega (arith, passed.few);
        inside = omega (arith, passed.inside);
        sets = record {
          of_x = one-more-passed code place want some passed.inside X row.b
              (λ qubit within. x-bit qubit within row) x sets.of_x;
          of_y = one-more-passed code place want some passed.inside Y (bit_xor row.a row.b)
              (λ qubit within. y-bit qubit within row) y sets.of_y;
          of_z = one-more-passed code place want some passed.inside Z row.a
              (λ qubit within. z-bit qubit within row) z sets.of_z;
        };
      }

  pub all-passed : place ≡ 0 → AreCandidates (generators code) want (record { x = x; y = y; z = z })
  all-passed first =
      let whole : want / 2 ^ place ≡ want = ap (λ (k : ℕ). want / 2 ^ k) first ∙ div-one want in
      subst (λ (w : ℕ). AreCandidates (generators code) w (record { x = x; y = y; z = z })) whole
      (subst (λ (k : ℕ). AreCandidates (drop k (generators code)) (want / 2 ^ place) (record { x = x; y = y; z = z }))
      first passed.sets)
