-- Texts laid on a buffer, one behind the other: byte by byte, on a part that is lent, and as a text that grows
-- (`Holds`).
use mathlib.Core.List.{List, [], ◌∷◌, ◌++◌, append_assoc, append-nil}
use mathlib.Core.Path.{◌≡◌, refl, ap, sym, subst, ◌∙◌}
use Prim.Native.Nat.{ℕ, ◌+◌, ◌-◌, ◌≤◌, ◌<◌}
use native.Mathlib.Nat.{zero-add}
use native.Mathlib.Numerals.{add-one}
use native.Mathlib.Omega.{arith}
use borrow.Rule.Slice.PartMut.{mid_of, put_mid, same_len_mid}
use lib.ListN.{length, take, drop, set, get_or, length-append, length-drop, length-set, drop_of_length-le}
use lib.Seq.{take-suc, length-take-le, drop-cons, drop-drop, sets, sets-eq, set-append_seam, take-append_seam}
use lib.Seq.{drop-append_seam}
use Rattle.sheet.specs.Text.{laid}
use Rattle.sheet.proofs.Parts.{tail_of}

-- A buffer with room for a text has room for the front of it.
pub front_fits : {m : ℕ} (text more : List ℕ) → length (text ++ more) ≤ m → length text ≤ m
front_fits text more h = omega (arith, length-append text more)

pub laid-nothing : (buffer : List ℕ) → buffer ≡ laid [] buffer
unfolding laid
laid-nothing buffer = refl

pub length-laid : (text buffer : List ℕ) → length text ≤ length buffer → length (laid text buffer) ≡ length buffer
unfolding laid
length-laid text buffer room =
    omega (arith, length-append text (drop (length text) buffer), length-drop (length text) buffer)

-- A text stored byte by byte from the front.
pub sets-laid : (text buffer : List ℕ) → length text ≤ length buffer → sets buffer 0 text ≡ laid text buffer
unfolding laid
sets-laid text buffer room =
    sets-eq text buffer 0 (omega arith) ∙ ap (λ (i : ℕ). text ++ drop i buffer) (zero-add (length text))

-- One byte behind a text.
pub set-laid : (text buffer : List ℕ) (end byte : ℕ) → end ≡ length text → end < length buffer
    → set (laid text buffer) end byte ≡ laid (text ++ byte ∷ []) buffer
unfolding laid
set-laid text buffer end byte e room =
    let behind : length text < length buffer = omega arith in
    ap (λ (i : ℕ). set (text ++ drop (length text) buffer) i byte) e
    ∙ ap (λ (l : List ℕ). set (text ++ l) (length text) byte) (drop-cons buffer (length text) 0 behind)
    ∙ set-append_seam text _ _ byte ∙ sym (append_assoc text (byte ∷ []) _)
    ∙ ap (λ (i : ℕ). (text ++ byte ∷ []) ++ drop i buffer) (sym (length-append text (byte ∷ []) ∙ add-one _))

-- A text laid byte by byte: the first bytes of it, then one more.
module _ (text buffer : List ℕ) (room : length text ≤ length buffer) where
  pub length_taken : (place : ℕ) → place ≤ length text → length (laid (take place text) buffer) ≡ length buffer
  length_taken place h = length-laid (take place text) buffer (omega (arith, length-take-le place text h))

  pub byte-laid : (place d : ℕ) → place < length text
      → set (laid (take place text) buffer) place (get_or text place d) ≡ laid (take (place + 1) text) buffer
  byte-laid place d h =
      set-laid (take place text) buffer place _ (sym (length-take-le place text (omega arith))) (omega arith)
      ∙ ap (λ (t : List ℕ). laid t buffer)
      (sym (take-suc text place d h) ∙ ap (λ (i : ℕ). take i text) (sym (add-one place)))

-- ---- a part that is lent

-- What is lent of a slice from a place on, and the slice with what comes back.
abbrev pub lent : ℕ → List ℕ → List ℕ
lent end l = mid_of end (length l - end) l

abbrev pub back : ℕ → List ℕ → List ℕ → List ℕ
back end l part = put_mid end (length l - end) l part

pub length-lent : (end : ℕ) (l : List ℕ) → length (lent end l) ≡ length l - end
length-lent end l = ap length (tail_of end l) ∙ length-drop end l

pub length_back : (end : ℕ) (l part : List ℕ) → length part ≡ length (lent end l) → length (back end l part) ≡ length l
length_back end l part e = same_len_mid end (length l - end) l part e

back_is : (end : ℕ) (l part : List ℕ) → back end l part ≡ take end l ++ part
back_is end l part =
    ap (λ (rest : List ℕ). take end l ++ (part ++ rest))
    (drop_of_length-le (drop end l) {i = length l - end} (omega (arith, length-drop end l)))
    ∙ ap (λ (r : List ℕ). take end l ++ r) (append-nil part)

-- A second text, laid on the part behind the first.
laid-behind : (first second buffer : List ℕ) (end : ℕ) → end ≡ length first
    → take end (laid first buffer) ++ laid second (drop end (laid first buffer)) ≡ laid (first ++ second) buffer
unfolding laid
laid-behind first second buffer end e =
    rw (e, take-append_seam, drop-append_seam, drop-drop, ← length-append, append_assoc)

pub back-laid : (first second buffer l part : List ℕ) (end : ℕ) → l ≡ laid first buffer → end ≡ length first
    → part ≡ laid second (lent end l)
    → back end l part ≡ laid (first ++ second) buffer
back-laid first second buffer l part end p e q =
    back_is end l part ∙ ap (λ (r : List ℕ). take end l ++ r) (q ∙ ap (laid second) (tail_of end l))
    ∙ ap (λ (r : List ℕ). take end r ++ laid second (drop end r)) p ∙ laid-behind first second buffer end e

-- ---- a text that grows

-- The slice l, which was the buffer, holds a text of `end` bytes at its front.
pub record Holds (text buffer l : List ℕ) (end : ℕ) : Type 0 where
  pub content : l ≡ laid text buffer
  pub count : end ≡ length text
  pub size : length l ≡ length buffer

pub holds-nothing : (buffer : List ℕ) → Holds [] buffer buffer 0
holds-nothing buffer = record { content = laid-nothing buffer; count = refl; size = refl }

module _ {text buffer l : List ℕ} {end : ℕ} (held : Holds text buffer l end) where
  pub holds_as : {other : List ℕ} → text ≡ other → Holds other buffer l end
  holds_as e = subst (λ (t : List ℕ). Holds t buffer l end) e held

  pub end-within : length text ≤ length buffer → end ≤ length l
  end-within room = omega arith

  pub room-behind : (more : List ℕ) → length (text ++ more) ≤ length buffer → length more ≤ length (lent end l)
  room-behind more room = omega (arith, length-append text more, length-lent end l)

  -- One byte was stored behind it.
  pub holds-byte : (byte : ℕ) → end < length l → Holds (text ++ byte ∷ []) buffer (set l end byte) (end + 1)
  holds-byte byte room = record {
    content = ap (λ (l : List ℕ). set l end byte) held.content
        ∙ set-laid text buffer end byte held.count (omega (arith, held.size));
    count = omega (arith, held.count, length-append text (byte ∷ []));
    size = length-set l end byte ∙ held.size;
  }

  -- More text was laid on the part behind it.
  pub holds_more : {part : List ℕ} {m : ℕ} (more : List ℕ) → m ≡ length more → part ≡ laid more (lent end l)
      → length part ≡ length (lent end l)
      → Holds (text ++ more) buffer (back end l part) (end + m)
  holds_more {part} more e q kept =
      record {
        content = back-laid text more buffer l part end held.content held.count q;
        count = omega (arith, length-append text more);
        size = length_back end l part kept ∙ held.size;
      }
