-- The readers against the report's definitions: one line, and then by the steps of a report's lines.
use Rattle.std.specs.Prelude.{Option, Some, None, Result, Ok, Err}
use Rattle.std.proofs.lemmas.Option.{none-some, same_Some}
use mathlib.Core.Bool.{Bool, true, false, cond}
use mathlib.Core.List.{List, [], ◌∷◌}
use mathlib.Core.Path.{◌≡◌, refl, ap, sym, ◌∙◌}
use Prim.Native.Nat.{ℕ, zero, suc, ◌+◌, ◌≤◌}
use native.Mathlib.Omega.{arith}
use lib.ListN.{length, take, drop, length-drop}
use lib.Seq.{drop-drop}
use Rattle.letters.proofs.Options.{some-none}
use Rattle.letters.specs.Lists.{bytes}
use Rattle.pauli.specs.Syndrome.{mask_of_bits}
use Rattle.refusals.specs.declared.Refusal.{Refusal}
use Rattle.code_record.specs.declared.Code.{Code}
use Rattle.code_record.specs.Record.{row_room}
use Rattle.sheet.specs.Reader.{got, stop, got_or, is_line, line_of}
use Rattle.syndrome_reader.specs.Mask.{read_mask}
use Rattle.syndrome_reader.proofs.ReadMask.{mask-is-of-bits}
use Rattle.reporting.specs.Report.{syndrome_line}
use Rattle.reporting.proofs.Steps.{before, lines_from, lines-ended, lines-got, lines-stopped}
use Rattle.syndrome_lines.specs.declared.OffForm.{OffForm}
use Rattle.syndrome_lines.specs.SyndromeLines.{mask_line, syndrome_length, off_form_behind, one_more, check_lines}
use Rattle.syndrome_lines.specs.SyndromeLines.{line_fault, lines_fault}
use Rattle.syndrome_lines.specs.Statements.{SyndromeLinesAreRead}
use Rattle.syndrome_lines.proofs.Lines.{no-mask, check-ended, check-off, check-more, lines_before}

-- ---- what is told of the lines behind one

read_behind : (lines : Result Unit OffForm) → one_more lines ≡ Ok tt → lines ≡ Ok tt
unfolding one_more
read_behind (Ok _) e = refl
read_behind (Err off) e = cc

off-behind : (lines : Result Unit OffForm) (m : ℕ) → one_more lines ≡ off_form_behind m
    → (k : ℕ) × (lines ≡ off_form_behind k) × (k + 1 ≡ m)
unfolding one_more
off-behind (Ok _) m e = let z : ◌≡◌ {A = ℕ} 0 1 = cc in absurd (omega arith)
off-behind (Err off) m e = (off.before, refl, ap lines_before e)

same_count : {m k : ℕ} → off_form_behind m ≡ off_form_behind k → m ≡ k
same_count e = ap lines_before e

not-both : {m : ℕ} → off_form_behind m ≡ Ok tt → ⊥
not-both e = let z : ◌≡◌ {A = ℕ} 0 1 = cc in absurd (omega arith)

module _ (c : Code) where
  -- ---- one line

  module _ (at : ℕ) (s : List ℕ) where
    abbrev characters : List ℕ
    characters = take c.r (drop 2 s)

    line : (m : ℕ) → mask_line c.r s ≡ Some m
        → (bits : List Bool) × (syndrome_line c at s ≡ got bits (drop (syndrome_length c.r) s))
        × (m ≡ mask_of_bits bits)
    unfolding mask_line syndrome_length syndrome_line line_of got_or bytes
    line m e = by-line (is_line (bytes "s=") c.r s) refl e
      where
        by-line : (b : Bool) → is_line (bytes "s=") c.r s ≡ b
            → cond b (read_mask c.r characters) None ≡ Some m
            → (bits : List Bool) × (syndrome_line c at s ≡ got bits (drop (c.r + 3) s)) × (m ≡ mask_of_bits bits)
        by-line true f e =
            let told = mask-is-of-bits.told c.r characters m e in
            let places : 2 + (c.r + 1) ≡ c.r + 3 = omega arith in (
              told.0,
              rw (f, told.1)
                  (ap (got told.0) (drop-drop (c.r + 1) 2 s ∙ ap (λ (i : ℕ). drop i s) places)),
              told.2,
            )
        by-line false f e = absurd (no-mask e)

    malformed : c.r ≤ row_room → mask_line c.r s ≡ None
        → syndrome_line c at s ≡ stop (Refusal.Syndrome at)
    unfolding mask_line syndrome_line line_of got_or bytes
    malformed few e = by-line (is_line (bytes "s=") c.r s) refl e
      where
        by-line : (b : Bool) → is_line (bytes "s=") c.r s ≡ b
            → cond b (read_mask c.r characters) None ≡ None
            → syndrome_line c at s ≡ stop (Refusal.Syndrome at)
        by-line true f e = rw (f, mask-is-of-bits.malformed c.r characters e few)
        by-line false f e = rw f

  -- ---- all lines

  -- The bytes behind the line at their start.
  abbrev behind : List ℕ → List ℕ
  behind s = drop (syndrome_length c.r) s

  shorter : (b : ℕ) (s : List ℕ) → length (behind (b ∷ s)) ≤ length s
  unfolding syndrome_length
  shorter b s = omega (arith, length-drop (c.r + 3) (b ∷ s))

  abbrev AllRead : ℕ → List ℕ → Type 0
  AllRead at s = (syndromes : List (List Bool)) × (lines_from c at s ≡ got syndromes [])

  read : (most at : ℕ) (s : List ℕ) → length s ≤ most → check_lines c.r s ≡ Ok tt → AllRead at s
  unfolding before
  read zero at [] few e = ([], lines-ended c at)
  read zero at (b ∷ s) few e = absurd (omega arith)
  read (suc most) at [] few e = ([], lines-ended c at)
  read (suc most) at (b ∷ s) few e =
      by-line (mask_line c.r (b ∷ s)) refl (read most (at + 1) (behind (b ∷ s)) (omega (arith, shorter b s)))
    where
      by-line : (x : Option ℕ) → mask_line c.r (b ∷ s) ≡ x
          → (check_lines c.r (behind (b ∷ s)) ≡ Ok tt → AllRead (at + 1) (behind (b ∷ s)))
          → AllRead at (b ∷ s)
      by-line (Some m) f next =
          let first = line at (b ∷ s) m f in
          let others = next (read_behind _ (sym (check-more c.r (b ∷ s) f) ∙ e)) in (
            first.0 ∷ others.0,
            lines-got c at (b ∷ s) first.0 (behind (b ∷ s)) first.1 ∙ ap (before (first.0 ∷ [])) others.1,
          )
      by-line None f next =
          absurd (not-both (sym (check-off c.r (b ∷ s) (omega arith) f) ∙ e))

  off-form : c.r ≤ row_room → (most at : ℕ) (s : List ℕ) (m : ℕ) → length s ≤ most
      → check_lines c.r s ≡ off_form_behind m → lines_from c at s ≡ stop (Refusal.Syndrome (at + m))
  unfolding before
  off-form room zero at [] m few e = absurd (not-both (sym e ∙ check-ended c.r))
  off-form room zero at (b ∷ s) m few e = absurd (omega arith)
  off-form room (suc most) at [] m few e = absurd (not-both (sym e ∙ check-ended c.r))
  off-form room (suc most) at (b ∷ s) m few e =
      by-line (mask_line c.r (b ∷ s)) refl
      (λ m. off-form room most (at + 1) (behind (b ∷ s)) m (omega (arith, shorter b s)))
    where
      by-line : (x : Option ℕ) → mask_line c.r (b ∷ s) ≡ x
          → ((m : ℕ) → check_lines c.r (behind (b ∷ s)) ≡ off_form_behind m
          → lines_from c (at + 1) (behind (b ∷ s)) ≡ stop (Refusal.Syndrome (at + 1 + m)))
          → lines_from c at (b ∷ s) ≡ stop (Refusal.Syndrome (at + m))
      by-line (Some mask) f next =
          let first = line at (b ∷ s) mask f in
          let left = off-behind _ m (sym (check-more c.r (b ∷ s) f) ∙ e) in
          let place : at + 1 + left.0 ≡ at + m = omega (arith, left.2) in
          lines-got c at (b ∷ s) first.0 (behind (b ∷ s)) first.1
          ∙ ap (before (first.0 ∷ [])) (next left.0 left.1)
          ∙ ap (λ (i : ℕ). stop (Refusal.Syndrome i)) place
      by-line None f next =
          let none = same_count (sym (check-off c.r (b ∷ s) (omega arith) f) ∙ e) in
          let place : at ≡ at + m = omega (arith, none) in
          lines-stopped c at (b ∷ s) (Refusal.Syndrome at) (omega arith) (malformed at (b ∷ s) room f)
          ∙ ap (λ (i : ℕ). stop (Refusal.Syndrome i)) place

-- ---- by what the answers refuse

malformed-told : (at : ℕ) (x : Option ℕ) (refusal : Refusal) → line_fault at x ≡ Some refusal
    → (x ≡ None) × (Refusal.Syndrome at ≡ refusal)
unfolding line_fault
malformed-told at (Some m) refusal e = absurd (none-some refusal e)
malformed-told at None refusal e = (refl, same_Some _ refusal e)

read_told : (at : ℕ) (lines : Result Unit OffForm) → lines_fault at lines ≡ None → lines ≡ Ok tt
unfolding lines_fault
read_told at (Ok _) e = refl
read_told at (Err off) e = absurd (some-none _ e)

off-told : (at : ℕ) (lines : Result Unit OffForm) (refusal : Refusal) → lines_fault at lines ≡ Some refusal
    → (m : ℕ) × (lines ≡ off_form_behind m) × (Refusal.Syndrome (at + m) ≡ refusal)
unfolding lines_fault
off-told at (Ok _) refusal e = absurd (none-some refusal e)
off-told at (Err off) refusal e = (off.before, refl, same_Some _ refusal e)

pub syndrome-lines-are-read : SyndromeLinesAreRead
syndrome-lines-are-read = record {
  line = line;
  malformed = λ c at s refusal few e.
      let told = malformed-told at _ refusal e in malformed c at s few told.0 ∙ ap stop told.1;
  read = λ c at s e. read c (length s) at s (omega arith) (read_told at _ e);
  off_form = λ c at s refusal few e.
      let told = off-told at _ refusal e in
      off-form c few (length s) at s told.0 (omega arith) told.1 ∙ ap stop told.2;
}
