-- What the loop has written: the lines for the syndromes that were passed. And what the call answers.
use Rattle.std.specs.Prelude.{Some, None}
use mathlib.Core.List.{List, [], ◌++◌}
use mathlib.Core.Path.{◌≡◌, ap, ◌∙◌}
use Prim.Native.Nat.{ℕ, ◌+◌, ◌≤◌}
use native.Mathlib.Omega.{arith}
use lib.ListN.{length, drop, length-append}
use Rattle.sheet.specs.Text.{laid}
use Rattle.sheet.proofs.Laid.{lent, back, length-lent, Holds, holds-nothing, holds_more}
use Rattle.letter_sums.specs.declared.LetterWords.{LetterWords}
use Rattle.syndrome_lines.specs.SyndromeLines.{mask_line}
use Rattle.correction_lines.proofs.Lines.{line_for, lines_for, Passed, passed_none, passed-more, next-line}
use Rattle.correction_lines.proofs.Lines.{passed-off, passed-all}

module _ (words : LetterWords) (t r : ℕ) (s buffer : List ℕ) where
  abbrev text : List ℕ
  text = lines_for words t r s

  -- The slice, which was the buffer, holds the lines for the syndromes up to a place, and they have `end` bytes.
  pub record Answered (place : ℕ) (out : List ℕ) (end : ℕ) : Type 0 where
    pub front : List ℕ
    pub passed : Passed words t r s place front
    pub held : Holds front buffer out end

  pub answered-none : Answered 0 buffer 0
  answered-none = record { front = []; passed = passed_none words t r s; held = holds-nothing buffer }

  module _ {place : ℕ} {out : List ℕ} {end : ℕ} (h : Answered place out end) where
    -- All lines are there.
    whole : h.front ≡ text → (end ≡ length text) × (out ≡ laid text buffer)
    whole e =
        (h.held.count ∙ ap length e, h.held.content ∙ ap (λ (l : List ℕ). laid l buffer) e)

    pub answered-off : mask_line r (drop place s) ≡ None
        → (end ≡ length text) × (out ≡ laid text buffer)
    answered-off e = whole (passed-off words t r s h.passed e)

    pub answered-all : length s ≤ place → (end ≡ length text) × (out ≡ laid text buffer)
    answered-all all = whole (passed-all words t r s h.passed all)

    module _ {m : ℕ} (e : mask_line r (drop place s) ≡ Some m) (fits : length text ≤ length buffer) where
      abbrev next : List ℕ
      next = line_for words t r m

      -- The next line has room behind those that are there.
      pub next-room : end + length next ≤ length buffer
      next-room =
          omega (
            arith,
            ap length (next-line words t r s h.passed e),
            length-append (h.front ++ next) (lines_for words t r (drop (place + (r + 3)) s)),
            length-append h.front next,
            h.held.count,
          )

      pub next_fits : length next ≤ length (lent end out)
      next_fits = omega (arith, next-room, length-lent end out, h.held.size)

      pub answered-more : {part : List ℕ} {count : ℕ} → count ≡ length next → part ≡ laid next (lent end out)
          → length part ≡ length (lent end out) → Answered (place + (r + 3)) (back end out part) (end + count)
      answered-more counted laid-there kept = record {
        front = h.front ++ next;
        passed = passed-more words t r s h.passed e;
        held = holds_more h.held next counted laid-there kept;
      }
