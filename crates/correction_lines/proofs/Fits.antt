-- Whether lines fit: the room that is left behind those that were passed, and the room that is always enough.
use Rattle.std.specs.Prelude.{Option, Some, None}
use mathlib.Core.Bool.{Bool, true, false, ◌&&◌}
use mathlib.Core.List.{List, [], ◌++◌}
use mathlib.Core.Path.{◌≡◌, refl, ap, sym, ◌∙◌}
use Prim.Native.Nat.{ℕ, zero, suc, ◌+◌, ◌*◌, ◌-◌, ◌/◌, ◌≤◌, ◌<◌}
use native.Mathlib.Omega.{arith}
use borrow.Author.Tests.{le-leb, lt-leb, leb-true, leb-false}
use lib.Dec.{leb}
use lib.ListN.{length, drop, length-append, length-drop}
use Rattle.letter_sums.specs.declared.LetterWords.{LetterWords}
use Rattle.code_record.specs.Record.{most_qubits, between}
use Rattle.code_record.proofs.Limits.{bounds-between}
use Rattle.syndrome_lines.specs.SyndromeLines.{mask_line, syndrome_length}
use Rattle.syndrome_lines.proofs.Lines.{mask-within}
use Rattle.corrections.specs.Corrections.{correction_by}
use Rattle.correction_writer.proofs.Lines.{length-few}
use Rattle.correction_lines.specs.CorrectionLines.{corrections_text, corrections_fit}
use Rattle.correction_lines.proofs.Lines.{line_for, lines_for, lines-off, lines_more}
use Rattle.correction_lines.proofs.Lines.{Passed, passed_none, passed-more, next-line, passed-off, passed-all}

module _ (words : LetterWords) (t r : ℕ) (s : List ℕ) (room : ℕ) where
  -- Of the room so much is left behind the lines that were passed.
  pub record Left (place left : ℕ) : Type 0 where
    pub front : List ℕ
    pub passed : Passed words t r s place front
    pub counted : length front + left ≡ room

  pub left-all : Left 0 room
  left-all = record { front = []; passed = passed_none words t r s; counted = omega arith }

  module _ {place left : ℕ} (h : Left place left) where
    pub fit-off : mask_line r (drop place s) ≡ None → true ≡ leb (length (lines_for words t r s)) room
    fit-off e =
        let all = ap length (passed-off words t r s h.passed e) in
        sym (le-leb (length (lines_for words t r s)) room (omega (arith, all, h.counted)))

    pub fit_all : length s ≤ place → true ≡ leb (length (lines_for words t r s)) room
    fit_all end =
        let all = ap length (passed-all words t r s h.passed end) in
        sym (le-leb (length (lines_for words t r s)) room (omega (arith, all, h.counted)))

    module _ {m : ℕ} (e : mask_line r (drop place s) ≡ Some m) where
      abbrev next : List ℕ
      next = line_for words t r m

      pub left-more : length next ≤ left → Left (place + (r + 3)) (left - length next)
      left-more fits = record {
        front = h.front ++ next;
        passed = passed-more words t r s h.passed e;
        counted = omega (arith, length-append h.front next, h.counted);
      }

      pub no-fit : left < length next → false ≡ leb (length (lines_for words t r s)) room
      no-fit short =
          let behind = lines_for words t r (drop (place + (r + 3)) s) in
          let all = ap length (next-line words t r s h.passed e) in
          sym
          (lt-leb (length (lines_for words t r s)) room
          (omega (
            arith,
            all,
            length-append (h.front ++ next) behind,
            length-append h.front next,
            h.counted,
          )))

-- ---- room for the longest line behind every syndrome

module _ (words : LetterWords) (t r : ℕ) (low : 2 ≤ words.qubits) (high : words.qubits ≤ most_qubits)
    (some : 1 ≤ r) where
  abbrev behind : List ℕ → List ℕ
  behind s = drop (syndrome_length r) s

  abbrev FewFor : List ℕ → Type 0
  FewFor s = length (lines_for words t r s) ≤ 27 * (length s / 4)

  -- A line that is read has four bytes at least.
  shorter : (s : List ℕ) (m : ℕ) → mask_line r s ≡ Some m → length (behind s) + 4 ≤ length s
  unfolding syndrome_length
  shorter s m e = omega (arith, mask-within r s e, length-drop (r + 3) s)

  few-by-line : (s : List ℕ) → ((m : ℕ) → mask_line r s ≡ Some m → FewFor (behind s)) → FewFor s
  few-by-line s next = by-line (mask_line r s) refl
    where
      by-line : (x : Option ℕ) → mask_line r s ≡ x → FewFor s
      by-line None e = omega (arith, ap length (lines-off words t r s e))
      by-line (Some m) e =
          omega (
            arith,
            ap length (lines_more words t r s m e),
            length-append (line_for words t r m) (lines_for words t r (behind s)),
            length-few words.qubits low high (correction_by words t m),
            next m e,
            shorter s m e,
          )

  lines-few : (most : ℕ) (s : List ℕ) → length s ≤ most → FewFor s
  lines-few zero s few = few-by-line s (λ m e. absurd (omega (arith, shorter s m e)))
  lines-few (suc most) s few =
      few-by-line s (λ m e. lines-few most (behind s) (omega (arith, shorter s m e)))

-- ---- the call

module _ (words : LetterWords) (t r : ℕ) (s : List ℕ) (room : ℕ) where
  pub fit-outside : between 2 most_qubits words.qubits ≡ false → false ≡ corrections_fit words t r s room
  unfolding corrections_fit
  fit-outside h = sym (ap (λ (b : Bool). b && leb (length (corrections_text words t r s)) room) h)

  module _ (low : 2 ≤ words.qubits) (high : words.qubits ≤ most_qubits) where
    pub fit-counted : {fits : Bool} → fits ≡ leb (length (corrections_text words t r s)) room
        → fits ≡ corrections_fit words t r s room
    unfolding corrections_fit
    fit-counted e =
        e
        ∙ ap (λ (b : Bool). b && leb (length (corrections_text words t r s)) room)
        (sym (bounds-between 2 most_qubits words.qubits low high))

    pub fit-always : 1 ≤ r → length s / 4 ≤ room / 27 → true ≡ corrections_fit words t r s room
    fit-always some h =
        fit-counted
        (sym
        (le-leb (length (corrections_text words t r s)) room
        (omega (arith, lines-few words t r low high some (length s) s (omega arith)))))

    -- What the answer tells.
    pub fit-room : true ≡ corrections_fit words t r s room → length (corrections_text words t r s) ≤ room
    fit-room e = leb-true (length (corrections_text words t r s)) room (fit-counted refl ∙ sym e)

    pub unfit-room : false ≡ corrections_fit words t r s room → room < length (corrections_text words t r s)
    unfit-room e = leb-false (length (corrections_text words t r s)) room (fit-counted refl ∙ sym e)
