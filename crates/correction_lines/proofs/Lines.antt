-- The `c=` lines one by one: the line for a syndrome that is read stands before those of the rest. And what a loop has
-- passed: the lines of the syndromes up to a place, before those behind it.
use Rattle.std.specs.Prelude.{Option, Some, None}
use mathlib.Core.List.{List, [], ◌++◌, append_assoc, append-nil}
use mathlib.Core.Path.{◌≡◌, refl, ap, sym, ◌∙◌}
use Prim.Native.Nat.{ℕ, zero, suc, ◌+◌, ◌≤◌}
use native.Mathlib.Omega.{arith}
use lib.ListN.{length, drop, length-drop, drop_of_length-le}
use lib.Seq.{drop-drop}
use Rattle.letter_sums.specs.declared.LetterWords.{LetterWords}
use Rattle.syndrome_lines.specs.SyndromeLines.{mask_line, syndrome_length}
use Rattle.syndrome_lines.proofs.Lines.{mask-within}
use Rattle.corrections.specs.Corrections.{correction_by}
use Rattle.correction_writer.specs.Lines.{correction_text}
use Rattle.correction_lines.specs.CorrectionLines.{answered, correction_lines, corrections_text}

module _ (words : LetterWords) (t r : ℕ) where
  -- The line for a syndrome, and all lines for the bytes.
  abbrev pub line_for : ℕ → List ℕ
  line_for m = correction_text words.qubits (correction_by words t m)

  abbrev pub lines_for : List ℕ → List ℕ
  lines_for = corrections_text words t r

  -- ---- the bound on the lines

  same-later : (x : Option ℕ) (later later' : List ℕ) → ((m : ℕ) → x ≡ Some m → later ≡ later')
      → answered words t x later ≡ answered words t x later'
  unfolding answered
  same-later None later later' same = refl
  same-later (Some m) later later' same = ap (λ (l : List ℕ). line_for m ++ l) (same m refl)

  nothing_read : (x : Option ℕ) (later : List ℕ) → ((m : ℕ) → x ≡ Some m → ⊥)
      → answered words t x later ≡ []
  unfolding answered
  nothing_read None later none = refl
  nothing_read (Some m) later none = absurd (none m refl)

  -- A line that is read has bytes.
  some_bytes : (s : List ℕ) (m : ℕ) → mask_line r s ≡ Some m
      → length (drop (syndrome_length r) s) + 3 ≤ length s
  unfolding syndrome_length
  some_bytes s m e = omega (arith, mask-within r s e, length-drop (r + 3) s)

  -- As many lines as bytes are enough, and more are as good.
  lines-bound : (most more : ℕ) (s : List ℕ) → length s ≤ most → length s ≤ more
      → correction_lines most words t r s ≡ correction_lines more words t r s
  unfolding correction_lines
  lines-bound zero zero s few fewer = refl
  lines-bound zero (suc more) s few fewer =
      sym (nothing_read (mask_line r s) _ (λ m e. absurd (omega (arith, some_bytes s m e))))
  lines-bound (suc most) zero s few fewer =
      nothing_read (mask_line r s) _ (λ m e. absurd (omega (arith, some_bytes s m e)))
  lines-bound (suc most) (suc more) s few fewer =
      same-later (mask_line r s) _ _
      (λ m e. lines-bound most more (drop (syndrome_length r) s) (omega (arith, some_bytes s m e))
      (omega (arith, some_bytes s m e)))

  -- One line more than there are bytes.
  one_more : (s : List ℕ)
      → lines_for s
      ≡ answered words t (mask_line r s) (correction_lines (length s) words t r (drop (syndrome_length r) s))
  unfolding corrections_text correction_lines
  one_more s = lines-bound (length s) (suc (length s)) s (omega arith) (omega arith)

  -- ---- steps

  pub lines-ended : lines_for [] ≡ []
  unfolding corrections_text correction_lines
  lines-ended = refl

  pub lines-off : (s : List ℕ) → mask_line r s ≡ None → lines_for s ≡ []
  unfolding answered
  lines-off s e =
      one_more s
      ∙ ap (λ x. answered words t x (correction_lines (length s) words t r (drop (syndrome_length r) s))) e

  pub lines_more : (s : List ℕ) (m : ℕ) → mask_line r s ≡ Some m
      → lines_for s ≡ line_for m ++ lines_for (drop (syndrome_length r) s)
  unfolding answered corrections_text
  lines_more s m e =
      let behind = drop (syndrome_length r) s in
      one_more s ∙ ap (λ x. answered words t x (correction_lines (length s) words t r behind)) e
      ∙ ap (λ (l : List ℕ). line_for m ++ l)
      (lines-bound (length s) (length behind) behind (omega (arith, some_bytes s m e)) (omega arith))

  -- ---- what a loop has passed

  -- The lines for the syndromes up to a place are these.
  pub record Passed (s : List ℕ) (place : ℕ) (front : List ℕ) : Type 0 where
    pub within : place ≤ length s
    pub whole : front ++ lines_for (drop place s) ≡ lines_for s

  module _ (s : List ℕ) where
    pub passed_none : Passed s 0 []
    passed_none = record { within = omega arith; whole = refl }

    module _ {place : ℕ} {front : List ℕ} (h : Passed s place front) where
      -- The line at the place is within the bytes.
      pub line-within : {m : ℕ} → mask_line r (drop place s) ≡ Some m → place + (r + 3) ≤ length s
      unfolding syndrome_length
      line-within e = omega (arith, mask-within r (drop place s) e, length-drop place s, h.within)

      -- The line for it is the next of the whole.
      pub next-line : {m : ℕ} → mask_line r (drop place s) ≡ Some m
          → (front ++ line_for m) ++ lines_for (drop (place + (r + 3)) s) ≡ lines_for s
      unfolding syndrome_length
      next-line {m} e =
          append_assoc front (line_for m) (lines_for (drop (place + (r + 3)) s))
          ∙ ap (λ (rest : List ℕ). front ++ (line_for m ++ lines_for rest)) (sym (drop-drop (r + 3) place s))
          ∙ ap (λ (l : List ℕ). front ++ l) (sym (lines_more (drop place s) m e)) ∙ h.whole

      pub passed-more : {m : ℕ} → mask_line r (drop place s) ≡ Some m
          → Passed s (place + (r + 3)) (front ++ line_for m)
      passed-more e = record { within = line-within e; whole = next-line e }

      pub passed-off : mask_line r (drop place s) ≡ None → front ≡ lines_for s
      passed-off e =
          sym (append-nil front) ∙ ap (λ (l : List ℕ). front ++ l) (sym (lines-off (drop place s) e)) ∙ h.whole

      pub passed-all : length s ≤ place → front ≡ lines_for s
      passed-all all =
          sym (append-nil front) ∙ ap (λ (l : List ℕ). front ++ l) (sym lines-ended)
          ∙ ap (λ (rest : List ℕ). front ++ lines_for rest) (sym (drop_of_length-le s all)) ∙ h.whole
