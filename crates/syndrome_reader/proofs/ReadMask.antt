-- A syndrome read as a mask, as its bits tell it; and how the mask grows by a character in front.
use Rattle.std.specs.Prelude.{Option, Some, None}
use Rattle.std.specs.Option.{option_map}
use Rattle.std.specs.List.{push}
use mathlib.Core.Bool.{Bool, true, false, cond}
use mathlib.Core.List.{List, [], ◌∷◌, ◌++◌, append_assoc, append-nil}
use mathlib.Core.Path.{◌≡◌, refl, ap, ap₂, sym, ◌∙◌}
use Prim.Native.Nat.{ℕ, ◌+◌, ◌*◌, ◌^◌, ◌≤◌, ◌<◌}
use native.Mathlib.Nat.{pow-le-pow_right}
use native.Mathlib.Omega.{arith}
use borrow.Author.Tests.{lt-ltb, le-ltb, eq-eqb, ne_eqb}
use lib.Dec.{ltb}
use lib.ListN.{length, length-append, length-map}
use Rattle.letters.specs.Options.{bind}
use Rattle.pauli.specs.Syndrome.{mask_of_bits}
use Rattle.pauli.proofs.Undetected.{mask-of-bits-lt}
use Rattle.code_record.specs.Record.{row_room}
use Rattle.sheet.specs.Reader.{read_each}
use Rattle.sheet.proofs.Values.{each-written, read_byte-byte}
use Rattle.decoder.specs.Syndrome.{bit_byte, read_bit, read_syndrome}
use Rattle.syndrome_reader.specs.Mask.{mask_read, read_mask}
use Rattle.syndrome_reader.specs.Statements.{MaskIsOfBits}

-- ---- the mask and the bits

bits-told : (o : Option (List Bool)) (m : ℕ) → mask_read o ≡ Some m
    → (bits : List Bool) × (o ≡ Some bits) × (m ≡ mask_of_bits bits)
unfolding mask_read
bits-told None m e = let z : ◌≡◌ {A = ℕ} 0 1 = cc in absurd (omega arith)
bits-told (Some bits) m e = (bits, refl, cc)

none_told : (o : Option (List Bool)) → mask_read o ≡ None → o ≡ None
unfolding mask_read
none_told None e = refl
none_told (Some bits) e = cc

-- ---- the room for generators, and the number of characters

module _ (r : ℕ) (cs : List ℕ) where
  pub many-generators : row_room < r → read_mask r cs ≡ None
  unfolding read_mask
  many-generators h = rw (lt-ltb row_room r h)

  few-generators : r ≤ row_room → read_mask r cs ≡ mask_read (read_syndrome r cs)
  unfolding read_mask
  few-generators h = rw (le-ltb row_room r h)

  pub other-count : r ≤ row_room → (length cs ≡ r → ⊥) → read_mask r cs ≡ None
  unfolding read_syndrome mask_read
  other-count h other =
      few-generators h ∙ ap (λ t. mask_read (cond t (read_each read_bit cs) None)) (ne_eqb (length cs) r other)

  pub same_count : r ≤ row_room → length cs ≡ r → read_mask r cs ≡ mask_read (read_each read_bit cs)
  unfolding read_syndrome
  same_count h same =
      few-generators h ∙ ap (λ t. mask_read (cond t (read_each read_bit cs) None)) (eq-eqb (length cs) r same)

  told : (m : ℕ) → read_mask r cs ≡ Some m
      → (bits : List Bool) × (read_syndrome r cs ≡ Some bits) × (m ≡ mask_of_bits bits)
  unfolding read_mask
  told m e = by-room (ltb row_room r) e
    where
      by-room : (t : Bool) → cond t None (mask_read (read_syndrome r cs)) ≡ Some m
          → (bits : List Bool) × (read_syndrome r cs ≡ Some bits) × (m ≡ mask_of_bits bits)
      by-room true e = let z : ◌≡◌ {A = ℕ} 0 1 = cc in absurd (omega arith)
      by-room false e = bits-told (read_syndrome r cs) m e

pub mask-is-of-bits : MaskIsOfBits
unfolding mask_read
mask-is-of-bits = record {
  read = λ r cs bits h e. few-generators r cs h ∙ ap mask_read e;
  told = told;
  malformed = λ r cs e h. none_told (read_syndrome r cs) (sym (few-generators r cs h) ∙ e);
  beyond = many-generators;
}

-- ---- one character more

-- What a character is read as by itself: the mask of its bit, or malformed where it is none.
bit-told : (c bit : ℕ) → read_mask 1 (c ∷ []) ≡ Some bit
    → (b : Bool) × (read_bit c ≡ Some b) × (bit ≡ cond b 1 0)
unfolding read_each bind mask_read mask_of_bits
bit-told c bit e = by_bit (read_bit c) (sym (same_count 1 (c ∷ []) (omega arith) refl) ∙ e)
  where
    by_bit : (o : Option Bool)
        → mask_read (bind o (λ b. option_map (λ rest. b ∷ rest) (Some []))) ≡ Some bit
        → (b : Bool) × (o ≡ Some b) × (bit ≡ cond b 1 0)
    by_bit None e = let z : ◌≡◌ {A = ℕ} 0 1 = cc in absurd (omega arith)
    by_bit (Some true) e = (true, refl, cc)
    by_bit (Some false) e = (false, refl, cc)

no-bit-told : (c : ℕ) → read_mask 1 (c ∷ []) ≡ None → read_bit c ≡ None
unfolding read_each bind mask_read
no-bit-told c e = by_bit (read_bit c) (sym (same_count 1 (c ∷ []) (omega arith) refl) ∙ e)
  where
    by_bit : (o : Option Bool)
        → mask_read (bind o (λ b. option_map (λ rest. b ∷ rest) (Some []))) ≡ None → o ≡ None
    by_bit None e = refl
    by_bit (Some b) e = cc

pub character-malformed : (c : ℕ) → read_bit c ≡ None → read_mask 1 (c ∷ []) ≡ None
unfolding read_each bind mask_read
character-malformed c e = same_count 1 (c ∷ []) (omega arith) refl ∙ rw e

pub bit-small : (c bit : ℕ) → Some bit ≡ read_mask 1 (c ∷ []) → bit < 2
bit-small c bit e = let told = bit-told c bit (sym e) in by_bit told.0 told.2
  where
    by_bit : (b : Bool) → bit ≡ cond b 1 0 → bit < 2
    by_bit true e = omega arith
    by_bit false e = omega arith

-- A character in front of others: its bit is the lowest.
character-more : (c bit mask : ℕ) (w : List ℕ) → read_mask 1 (c ∷ []) ≡ Some bit
    → mask_read (read_each read_bit w) ≡ Some mask
    → mask_read (read_each read_bit (c ∷ w)) ≡ Some (bit + 2 * mask)
unfolding read_each bind mask_read mask_of_bits
character-more c bit mask w e f =
    let first = bit-told c bit e in
    let others = bits-told (read_each read_bit w) mask f in
    rw (first.1, others.1)
    (ap₂ (λ (x m : ℕ). Some (x + 2 * m)) (sym first.2) (sym others.2))

-- One character that is no bit, behind others and before others.
no-bits : (front : List ℕ) (c : ℕ) (behind : List ℕ) → read_bit c ≡ None
    → read_each read_bit (front ++ (c ∷ behind)) ≡ None
unfolding read_each bind
no-bits [] c behind e = rw e
no-bits (first ∷ front) c behind e = rw (no-bits front c behind e) (by_bit (read_bit first))
  where
    by_bit : (o : Option Bool) → ◌≡◌ {A = Option (List Bool)} (bind o (λ b. None)) None
    by_bit None = refl
    by_bit (Some b) = refl

-- ---- the characters from the last one on

-- Those in front are left, and those behind them are read.
pub record Behind (cs front : List ℕ) (mask : ℕ) : Type 0 where
  pub behind : List ℕ
  pub whole : front ++ behind ≡ cs
  pub read : mask_read (read_each read_bit behind) ≡ Some mask

pub behind-none : (cs : List ℕ) → Behind cs cs 0
unfolding mask_read read_each mask_of_bits
behind-none cs = record { behind = []; whole = append-nil cs; read = refl }

module _ {cs front : List ℕ} {mask : ℕ} (h : Behind cs front mask) where
  pub behind-all : length front ≡ 0 → mask_read (read_each read_bit cs) ≡ Some mask
  behind-all none = ap (λ l. mask_read (read_each read_bit l)) (sym (by-front front none h.whole)) ∙ h.read
    where
      by-front : (front : List ℕ) → length front ≡ 0 → front ++ h.behind ≡ cs → h.behind ≡ cs
      by-front [] none e = e
      by-front (c ∷ front) none e = absurd (omega arith)

  -- The last character in front.
  module _ (others : List ℕ) (c : ℕ) (last : front ≡ push others c) where
    parts : others ++ (c ∷ h.behind) ≡ cs
    parts = sym (append_assoc others (c ∷ []) h.behind) ∙ ap (λ (l : List ℕ). l ++ h.behind) (sym last) ∙ h.whole

    pub behind-more : (bit : ℕ) → Some bit ≡ read_mask 1 (c ∷ []) → Behind cs others (bit + 2 * mask)
    behind-more bit e = record {
      behind = c ∷ h.behind;
      whole = parts;
      read = character-more c bit mask h.behind (sym e) h.read;
    }

    -- Behind it there are so few that their mask can be doubled.
    pub mask-room : length cs ≤ row_room → mask < 2 ^ 31
    unfolding read_bit
    mask-room few =
        let found = bits-told (read_each read_bit h.behind) mask h.read in
        let bits = found.0 in
        let text = each-written bit_byte read_bit (read_byte-byte bit_byte _) h.behind found.1 in
        let count : length bits ≤ 31 =
        omega (
          arith,
          ap length text,
          length-map bits bit_byte,
          ap length parts,
          length-append others (c ∷ h.behind),
        ) in
        omega (arith, found.2, mask-of-bits-lt bits, pow-le-pow_right {n = 2} (omega arith) count)

    pub no-bit : None ≡ read_mask 1 (c ∷ []) → None ≡ mask_read (read_each read_bit cs)
    unfolding mask_read
    no-bit e =
        ap mask_read (sym (no-bits others c h.behind (no-bit-told c (sym e))))
        ∙ ap (λ (l : List ℕ). mask_read (read_each read_bit l)) parts
