-- The values of a line, as the code reads them: numbers of one or two digits, and letters from the last to the first.
use Rattle.std.specs.Prelude.{Option, Some, None}
use Rattle.std.specs.Option.{option_map, is_some}
use Rattle.std.proofs.lemmas.List.{nil_from_length}
use Rattle.letters.specs.Options.{bind}
use Rattle.letters.proofs.Options.{map-some}
use mathlib.Core.Bool.{true, false, false≢true}
use mathlib.Core.List.{List, [], ◌∷◌, ◌++◌, append_assoc, append-nil}
use mathlib.Core.Logic.{◌⊎◌}
use mathlib.Core.Path.{◌≡◌, refl, ap, sym, ◌∙◌}
use Prim.Native.Nat.{ℕ, zero, suc, ◌+◌, ◌-◌, ◌*◌, ◌^◌, ◌<◌, ◌≤◌}
use native.Mathlib.Nat.{pow-le-pow_right}
use native.Mathlib.Omega.{arith}
use borrow.Author.Tests.{lt-ltb, le-ltb}
use lib.ListN.{length, get_or, length-append}
use Rattle.letters.specs.declared.Letter.{Letter}
use Rattle.letters.specs.declared.Sign.TheVariants.{Plus}
use Rattle.pauli.specs.Letters.{x_mask, z_mask, mask_of, row_of, signed_row, of_letters}
use Rattle.letters.specs.Letters.{x_bit, z_bit, read_letter}
use Rattle.pauli.proofs.Letters.{x_mask-lt, z_mask-lt}
use Rattle.code_record.proofs.Limits.{bounds-between, outside-between}
use Rattle.sheet.specs.Reader.{read_digit, read_each, read_number, number_of, read_letters}
use Rattle.sheet.proofs.Values.{digit-written, number-from, letters-count}
use Rattle.line_parts.specs.Values.{bit_of, up_to}

-- ---- words that are short enough, and those that are not

module _ {A : Type 0} (most : ℕ) (read : List ℕ → Option A) (word : List ℕ) where
  pub few_bytes : length word ≤ most → up_to most read word ≡ read word
  unfolding up_to
  few_bytes h = rw (le-ltb most (length word) h)

  pub many-bytes : most < length word → up_to most read word ≡ None
  unfolding up_to
  many-bytes h = rw (lt-ltb most (length word) h)

-- ---- numbers

pub not-a-digit : (c : ℕ) → (c < 48) ⊎ (57 < c) → read_digit c ≡ None
unfolding read_digit
not-a-digit c h = rw (outside-between 48 57 c h)

pub a-digit : (c : ℕ) → 48 ≤ c → c ≤ 57 → read_digit c ≡ Some (c - 48)
unfolding read_digit
a-digit c h k = rw (bounds-between 48 57 c h k)

pub no_bytes : (w : List ℕ) → length w ≡ 0 → read_number w ≡ None
unfolding read_number read_each bind number_of
no_bytes [] h = refl
no_bytes (c ∷ w) h = absurd (omega arith)

pub no-first-digit : (w : List ℕ) → 0 < length w → read_digit (get_or w 0 0) ≡ None → read_number w ≡ None
unfolding read_number read_each bind
no-first-digit [] h e = absurd (omega arith)
no-first-digit (c ∷ w) h e = rw e

pub zero-first : (w : List ℕ) → 0 < length w → read_digit (get_or w 0 0) ≡ Some 0 → read_number w ≡ None
unfolding read_number read_each bind number_of
zero-first [] h e = absurd (omega arith)
zero-first (c ∷ w) h e = rw e (none_then (read_each read_digit w))
  where
    none_then : (o : Option (List ℕ)) → bind (option_map (λ rest. 0 ∷ rest) o) number_of ≡ None
    none_then None = refl
    none_then (Some ds) = refl

pub digit-small : (c d : ℕ) → read_digit c ≡ Some d → d < 10
digit-small c d e = (digit-written c d e).0

module _ (d : ℕ) (nonzero : d ≡ 0 → ⊥) where
  pub one-digit : (w : List ℕ) → length w ≡ 1 → read_digit (get_or w 0 0) ≡ Some d → read_number w ≡ Some d
  unfolding read_number read_each bind
  one-digit [] h p = absurd (omega arith)
  one-digit (c ∷ []) h p = rw p (number-from d [] (omega arith))
  one-digit (c ∷ c' ∷ w) h p = absurd (omega arith)

  pub no-second-digit : (w : List ℕ) → length w ≡ 2 → read_digit (get_or w 0 0) ≡ Some d
      → read_digit (get_or w 1 0) ≡ None
      → read_number w ≡ None
  unfolding read_number read_each bind
  no-second-digit [] h p q = absurd (omega arith)
  no-second-digit (c ∷ []) h p q = absurd (omega arith)
  no-second-digit (c ∷ c' ∷ w) h p q = rw (p, q)

  pub two_digits : (w : List ℕ) (e : ℕ) → length w ≡ 2 → read_digit (get_or w 0 0) ≡ Some d
      → read_digit (get_or w 1 0) ≡ Some e
      → read_number w ≡ Some (d * 10 + e)
  unfolding read_number read_each bind
  two_digits [] e h p q = absurd (omega arith)
  two_digits (c ∷ []) e h p q = absurd (omega arith)
  two_digits (c ∷ c' ∷ []) e h p q = rw (p, q) (number-from d (e ∷ []) (omega arith))
  two_digits (c ∷ c' ∷ c'' ∷ w) e h p q = absurd (omega arith)

-- ---- letters

-- One more letter in front.
letter-more : (c : ℕ) (l : Letter) (w : List ℕ) (a b : ℕ) → read_letter c ≡ Some l
    → read_letters w ≡ Some (row_of Plus a b)
    → read_letters (c ∷ w) ≡ Some (row_of Plus (x_bit l + 2 * a) (z_bit l + 2 * b))
unfolding read_letters read_each bind of_letters signed_row row_of x_mask z_mask mask_of
letter-more c l w a b e f =
    let found = map-some of_letters (read_each read_letter w) f in
    rw (e, found.1) (ap (λ P. Some (row_of Plus (x_bit l + 2 * P.a) (z_bit l + 2 * P.b))) found.2)

-- What was read is a letter, and what was not is none.
read_some : (o : Option Letter) → is_some o ≡ true → (l : Letter) × (o ≡ Some l)
read_some (Some l) e = (l, refl)
read_some None e = absurd (false≢true e)

read_none : (o : Option Letter) → is_some o ≡ false → o ≡ None
read_none (Some l) e = absurd (false≢true (sym e))
read_none None e = refl

-- The masks of at most 24 letters are below 2^24.
letters-small : (w : List ℕ) (a b : ℕ) → length w ≤ 24 → read_letters w ≡ Some (row_of Plus a b)
    → (a < 2 ^ 24) × (b < 2 ^ 24)
unfolding read_letters of_letters signed_row row_of
letters-small w a b h e =
    let found = map-some of_letters (read_each read_letter w) e in
    let size : length found.0 ≤ 24 = omega (arith, letters-count w found.0 found.1) in
    let room = pow-le-pow_right {n = 2} (omega arith) size in (
      omega (arith, ap (λ P. P.a) found.2, x_mask-lt found.0, room),
      omega (arith, ap (λ P. P.b) found.2, z_mask-lt found.0, room),
    )

pub bind-none : {A B : Type 0} (o : Option A) → ◌≡◌ {A = Option B} (bind o (λ a. None)) None
unfolding bind
bind-none None = refl
bind-none (Some a) = refl

-- One byte that is no letter.
no-letter : (front : List ℕ) (c : ℕ) (w : List ℕ) → read_letter c ≡ None → read_letters (front ++ c ∷ w) ≡ None
unfolding read_letters read_each bind
no-letter front c w e = ap (option_map of_letters) (one_none front)
  where
    one_none : (front : List ℕ) → read_each read_letter (front ++ c ∷ w) ≡ None
    one_none [] = rw e
    one_none (d ∷ front) = rw (one_none front) (bind-none (read_letter d))

-- The letters at the end of a word are read, and their masks are a and b. What is left of the word stands before them.
pub record Behind (word left : List ℕ) (a b : ℕ) : Type 0 where
  pub read : List ℕ
  pub whole : left ++ read ≡ word
  pub masks : read_letters read ≡ Some (row_of Plus a b)

pub behind_none : (word : List ℕ) → Behind word word 0 0
unfolding read_letters read_each of_letters signed_row x_mask z_mask mask_of row_of
behind_none word = record { read = []; whole = append-nil word; masks = refl }

module _ {word left : List ℕ} {a b : ℕ} (h : Behind word left a b) where
  pub behind-small : length word ≤ 24 → (a < 2 ^ 24) × (b < 2 ^ 24)
  behind-small few =
      letters-small h.read a b (omega (arith, ap length h.whole, length-append left h.read)) h.masks

  pub behind_all : length left ≡ 0 → read_letters word ≡ Some (row_of Plus a b)
  behind_all e = ap read_letters (sym h.whole ∙ ap (λ t. t ++ h.read) (nil_from_length left e)) ∙ h.masks

  -- the byte before them
  module _ (front : List ℕ) (c : ℕ) (last : left ≡ front ++ c ∷ []) where
    one-before : front ++ c ∷ h.read ≡ word
    one-before = sym (append_assoc front (c ∷ []) h.read) ∙ ap (λ t. t ++ h.read) (sym last) ∙ h.whole

    pub behind_more : {x z : ℕ} → is_some (read_letter c) ≡ true → x ≡ bit_of x_bit (read_letter c)
        → z ≡ bit_of z_bit (read_letter c) → Behind word front (x + 2 * a) (z + 2 * b)
    behind_more {x} {z} told p q =
        let letter = read_some (read_letter c) told in
        record {
          read = c ∷ h.read;
          whole = one-before;
          masks =
              letter-more c letter.0 h.read a b letter.1 h.masks
              ∙ ap (λ u. Some (row_of Plus (u + 2 * a) (z_bit letter.0 + 2 * b))) (sym (p ∙ ap (bit_of x_bit) letter.1))
              ∙ ap (λ u. Some (row_of Plus (x + 2 * a) (u + 2 * b))) (sym (q ∙ ap (bit_of z_bit) letter.1));
        }

    pub behind-no-letter : is_some (read_letter c) ≡ false → read_letters word ≡ None
    behind-no-letter told =
        ap read_letters (sym one-before) ∙ no-letter front c h.read (read_none (read_letter c) told)
