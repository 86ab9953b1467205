-- One line, by its parts: the key, the line feed and the characters between them. And the lines one by one: a line that
-- is read stands before what the rest gives.
use Rattle.std.specs.Prelude.{Option, Some, None, Result, Ok, Err}
use mathlib.Core.Bool.{Bool, true, false, cond, and-false}
use mathlib.Core.List.{List, [], ◌∷◌}
use mathlib.Core.Path.{◌≡◌, refl, ap, sym, ◌∙◌}
use Prim.Native.Nat.{ℕ, zero, suc, ◌+◌, ◌-◌, ◌≤◌, ◌<◌}
use native.Mathlib.Omega.{arith}
use borrow.Author.Tests.{ltb-true, ltb-false}
use lib.Dec.{eqb, ltb}
use lib.ListN.{length, take, drop, get_or, length-drop, drop_of_length-le}
use lib.Seq.{get_or-drop, drop-drop}
use Rattle.letters.specs.Lists.{bytes}
use Rattle.code_record.specs.Record.{row_room}
use Rattle.code_record.proofs.Limits.{both}
use Rattle.sheet.specs.Reader.{begins, is_line}
use Rattle.sheet.specs.Text.{line_feed}
use Rattle.line_kinds.specs.declared.LineKind.{LineKind}
use Rattle.line_kinds.specs.LineKinds.{line_kind}
use Rattle.line_kinds.proofs.Keys.{kind-begins, other-begins}
use Rattle.line_parts.proofs.LineValues.{feed-within}
use Rattle.decoder.specs.Syndrome.{read_syndrome}
use Rattle.syndrome_reader.specs.Mask.{read_mask}
use Rattle.syndrome_reader.proofs.ReadMask.{many-generators}
use Rattle.syndrome_lines.specs.declared.OffForm.{OffForm}
use Rattle.syndrome_lines.specs.SyndromeLines.{mask_line, syndrome_length, off_form_behind, one_more, line_then}
use Rattle.syndrome_lines.specs.SyndromeLines.{checked_lines, check_lines}

-- A mask is not malformed.
pub no-mask : {m : ℕ} → None ≡ Some m → ⊥
no-mask e = let z : ◌≡◌ {A = ℕ} 0 1 = cc in absurd (omega arith)

-- ---- one line

module _ (r : ℕ) (s : List ℕ) where
  pub mask-other : (line_kind s ≡ LineKind.Syndrome → ⊥) → mask_line r s ≡ None
  unfolding mask_line is_line bytes
  mask-other other = rw (other-begins LineKind.Syndrome s other)

  pub mask-many : row_room < r → mask_line r s ≡ None
  unfolding mask_line
  mask-many h = by-line (is_line (bytes "s=") r s)
    where
      by-line : (b : Bool) → cond b (read_mask r (take r (drop 2 s))) None ≡ None
      by-line true = many-generators r (take r (drop 2 s)) h
      by-line false = refl

  -- The line feed, at its place in the line.
  feed-at : get_or (drop 2 s) r 0 ≡ get_or s (r + 2) 0
  feed-at = let place : 2 + r ≡ r + 2 = omega arith in get_or-drop 2 s r 0 ∙ ap (λ (i : ℕ). get_or s i 0) place

  pub mask-no-feed : eqb (get_or s (r + 2) 0) line_feed ≡ false → mask_line r s ≡ None
  unfolding mask_line is_line bytes
  mask-no-feed e = rw (feed-at, e, and-false)

  pub mask-read : line_kind s ≡ LineKind.Syndrome → eqb (get_or s (r + 2) 0) line_feed ≡ true
      → mask_line r s ≡ read_mask r (take (r + 2 - 2) (drop 2 s))
  unfolding mask_line is_line bytes
  mask-read keyed e =
      let count : r + 2 - 2 ≡ r = omega arith in
      rw (kind-begins LineKind.Syndrome s (omega arith) keyed, feed-at, e, count)

  module _ {m : ℕ} (e : mask_line r s ≡ Some m) where
    pub mask-few : r ≤ row_room
    mask-few = by-room (ltb row_room r) refl
      where
        by-room : (b : Bool) → ltb row_room r ≡ b → r ≤ row_room
        by-room true f = absurd (no-mask (sym (mask-many (ltb-true row_room r f)) ∙ e))
        by-room false f = ltb-false row_room r f

    -- A line that was read is within the bytes.
    pub mask-within : syndrome_length r ≤ length s
    unfolding mask_line is_line bytes syndrome_length line_feed
    mask-within = by-line (is_line (bytes "s=") r s) refl e
      where
        by-line : (b : Bool) → is_line (bytes "s=") r s ≡ b
            → cond b (read_mask r (take r (drop 2 s))) None ≡ Some m → r + 3 ≤ length s
        by-line true f e =
            let feed = (both (begins (bytes "s=") s) _ f).1 in
            omega (arith, feed-within 2 r (read_syndrome r) s (ap (λ b. eqb b 10) (sym feed-at) ∙ feed))
        by-line false f e = absurd (no-mask e)

-- ---- the lines one by one

then_same : (line : Option ℕ) (others others' : List ℕ → Result Unit OffForm) (behind : List ℕ)
    → others behind ≡ others' behind → line_then line others behind ≡ line_then line others' behind
unfolding line_then
then_same (Some m) others others' behind e = ap one_more e
then_same None others others' behind e = refl

module _ (r : ℕ) where
  -- As many lines as bytes are enough, and more are as good.
  pub check-bound : (most more : ℕ) (s : List ℕ) → length s ≤ most → length s ≤ more
      → checked_lines most r s ≡ checked_lines more r s
  unfolding checked_lines syndrome_length
  check-bound zero zero s few fewer = refl
  check-bound zero (suc more) [] few fewer = refl
  check-bound (suc most) zero [] few fewer = refl
  check-bound (suc most) (suc more) [] few fewer = refl
  check-bound zero (suc more) (b ∷ s) few fewer = absurd (omega arith)
  check-bound (suc most) zero (b ∷ s) few fewer = absurd (omega arith)
  check-bound (suc most) (suc more) (b ∷ s) few fewer =
      let behind = drop (r + 3) (b ∷ s) in
      let fewer_bytes = length-drop (r + 3) (b ∷ s) in
      then_same (mask_line r (b ∷ s)) (checked_lines most r) (checked_lines more r) behind
      (check-bound most more behind (omega arith) (omega arith))

  pub check-ended : check_lines r [] ≡ Ok tt
  unfolding check_lines checked_lines
  check-ended = refl

  pub check-off : (s : List ℕ) → 0 < length s → mask_line r s ≡ None
      → check_lines r s ≡ off_form_behind 0
  unfolding check_lines checked_lines line_then
  check-off [] some e = absurd (omega arith)
  check-off (b ∷ s) some e =
      ap (λ line. line_then line (checked_lines (length s) r) (drop (syndrome_length r) (b ∷ s))) e

  pub check-more : (s : List ℕ) {m : ℕ} → mask_line r s ≡ Some m
      → check_lines r s ≡ one_more (check_lines r (drop (syndrome_length r) s))
  unfolding check_lines checked_lines line_then syndrome_length
  check-more [] {m} e = absurd (omega (arith, mask-within r [] e))
  check-more (b ∷ s) {m} e =
      let behind = drop (r + 3) (b ∷ s) in
      let fewer_bytes = length-drop (r + 3) (b ∷ s) in
      ap (λ line. line_then line (checked_lines (length s) r) behind) e
      ∙ ap one_more (check-bound (length s) (length behind) behind (omega arith) (omega arith))

-- ---- how many lines stand before a fault

abbrev pub lines_before : Result Unit OffForm → ℕ
lines_before (Ok _) = 0
lines_before (Err off) = off.before

one-more-before : (lines : Result Unit OffForm) → lines_before (one_more lines) ≤ lines_before lines + 1
unfolding one_more
one-more-before (Ok _) = omega arith
one-more-before (Err off) = omega arith

then-few : (line : Option ℕ) (others : List ℕ → Result Unit OffForm) (behind : List ℕ) (most : ℕ)
    → lines_before (others behind) ≤ most → lines_before (line_then line others behind) ≤ suc most
unfolding line_then
then-few (Some m) others behind most few = omega (arith, one-more-before (others behind))
then-few None others behind most few = omega arith

checked-few : (most r : ℕ) (s : List ℕ) → lines_before (checked_lines most r s) ≤ most
unfolding checked_lines
checked-few zero r [] = omega arith
checked-few zero r (b ∷ s) = omega arith
checked-few (suc most) r [] = omega arith
checked-few (suc most) r (b ∷ s) =
    then-few (mask_line r (b ∷ s)) (checked_lines most r) _ most (checked-few most r (drop (syndrome_length r) (b ∷ s)))

-- Each has a byte.
pub few-before : (r : ℕ) (s : List ℕ) → lines_before (check_lines r s) ≤ length s
unfolding check_lines
few-before r s = checked-few (length s) r s

-- ---- what a loop has read

-- So many lines were read before those that are told of.
unfoldable pub after : ℕ → Result Unit OffForm → Result Unit OffForm
after count (Ok _) = Ok tt
after count (Err off) = off_form_behind (count + off.before)

after_none : (lines : Result Unit OffForm) → lines ≡ after 0 lines
unfolding after
after_none (Ok _) = refl
after_none (Err off) = let same : off.before ≡ 0 + off.before = omega arith in ap off_form_behind same

after_one : (count : ℕ) (lines : Result Unit OffForm) → after count (one_more lines) ≡ after (count + 1) lines
unfolding after one_more
after_one count (Ok _) = refl
after_one count (Err off) =
    let same : count + (off.before + 1) ≡ count + 1 + off.before = omega arith in ap off_form_behind same

-- So many lines were read, up to a place, and stand before what the rest gives.
pub record Checked (r : ℕ) (s : List ℕ) (end count : ℕ) : Type 0 where
  pub few : count ≤ end
  pub within : end ≤ length s
  pub so_far : check_lines r s ≡ after count (check_lines r (drop end s))

module _ (r : ℕ) (s : List ℕ) where
  pub checked-none : Checked r s 0 0
  checked-none = record { few = omega arith; within = omega arith; so_far = after_none (check_lines r s) }

  module _ {end count : ℕ} (h : Checked r s end count) where
    -- The line at the place is within the bytes.
    pub line-within : {m : ℕ} → mask_line r (drop end s) ≡ Some m → end + (r + 3) ≤ length s
    unfolding syndrome_length
    line-within e = omega (arith, mask-within r (drop end s) e, length-drop end s, h.within)

    pub checked-more : {m : ℕ} → mask_line r (drop end s) ≡ Some m
        → Checked r s (end + (r + 3)) (count + 1)
    unfolding syndrome_length
    checked-more e =
        record {
          few = omega (arith, h.few);
          within = line-within e;
          so_far =
              h.so_far ∙ ap (after count) (check-more r (drop end s) e)
              ∙ after_one count (check_lines r (drop (r + 3) (drop end s)))
              ∙ ap (λ rest. after (count + 1) (check_lines r rest)) (drop-drop (r + 3) end s);
        }

    pub checked-off : end < length s → mask_line r (drop end s) ≡ None
        → off_form_behind count ≡ check_lines r s
    unfolding after
    checked-off inside e =
        let same : count + 0 ≡ count = omega arith in
        sym
        (h.so_far ∙ ap (after count) (check-off r (drop end s) (omega (arith, length-drop end s)) e)
        ∙ ap off_form_behind same)

    pub checked-all : length s ≤ end → Ok tt ≡ check_lines r s
    unfolding after
    checked-all all =
        sym
        (h.so_far ∙ ap (λ rest. after count (check_lines r rest)) (drop_of_length-le s all)
        ∙ ap (after count) (check-ended r))
