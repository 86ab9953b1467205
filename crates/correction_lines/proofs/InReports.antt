-- The lines against the report's definitions: the line of one syndrome is read as its mask, whose correction by words
-- is that of its bits; and then line by line.
use Rattle.std.specs.Prelude.{Option, Some, None}
use mathlib.Core.Bool.{Bool, true}
use mathlib.Core.List.{List, [], ◌∷◌, ◌++◌, flat_map}
use mathlib.Core.Path.{◌≡◌, refl, ap, ap₂, sym, ◌∙◌}
use Prim.Native.Nat.{ℕ, ◌+◌, ◌≤◌}
use native.Mathlib.Omega.{arith}
use lib.ListN.{length, drop}
use Rattle.letters.specs.declared.Letter.{Letter}
use Rattle.letters.specs.Lists.{bytes}
use Rattle.pauli.specs.Letters.{of_letters}
use Rattle.pauli.specs.Syndrome.{mask_of_bits}
use Rattle.refusals.specs.declared.Refusal.{Refusal}
use Rattle.code_record.specs.declared.Code.{Code}
use Rattle.code_record.specs.Record.{row_room, radius, within_limits, Sized}
use Rattle.code_record.proofs.Limits.{limits}
use Rattle.sheet.specs.Reader.{got, stop}
use Rattle.sheet.specs.Text.{line, line_feed}
use Rattle.sheet.proofs.Lengths.{length-generators}
use Rattle.sheet.proofs.Outcome.{what_was-got}
use Rattle.row_writer.proofs.Lines.{letters-keyed}
use Rattle.letter_words.specs.Words.{syndrome_words}
use Rattle.decoder.specs.Correction.{correction}
use Rattle.decoder.proofs.Earliest.{correction-is-earliest}
use Rattle.decoder.proofs.StringText.{string-text}
use Rattle.corrections.specs.Corrections.{correction_of, correction_by}
use Rattle.corrections.proofs.ByValue.{corrections-by-value, qubits-have-words}
use Rattle.reporting.specs.Report.{correction_value, correction_line}
use Rattle.reporting.specs.Statements.{syndrome_line_text, syndromes_text}
use Rattle.reporting.proofs.Syndromes.{HaveRBits, line_read, syndromes-outcome}
use Rattle.syndrome_lines.specs.SyndromeLines.{mask_line, syndrome_length, line_fault}
use Rattle.syndrome_lines.proofs.InReports.{syndrome-lines-are-read}
use Rattle.correction_writer.specs.Lines.{correction_text}
use Rattle.correction_lines.specs.Statements.{CorrectionLinesAreReported}
use Rattle.correction_lines.proofs.Lines.{line_for, lines_for, lines-ended, lines_more}

same_line : {A : Type 0} {a a' : A} {rest rest' : List ℕ} → got a rest ≡ got a' rest' → (a ≡ a') × (rest ≡ rest')
same_line e = (cc, cc)

not_stopped : {A : Type 0} {a : A} {rest : List ℕ} {refusal : Refusal} → got a rest ≡ stop refusal → ⊥
not_stopped e = let z : ◌≡◌ {A = ℕ} 0 1 = cc in absurd (omega arith)

module _ (c : Code) (sized : Sized c) (within : within_limits c ≡ true) where
  -- ---- one syndrome

  module _ (bits : List Bool) where
    -- The line of its correction has the letters of the string that was found.
    found-text : correction_text c.n (correction_of (correction c bits)) ≡ correction_line c bits
    unfolding correction_text correction_of correction_line correction_value bytes line line_feed
    found-text = by-found (correction c bits) refl
      where
        by-found : (found : Option (List Letter)) → correction c bits ≡ found
            → correction_text c.n (correction_of found) ≡ line "c=" (correction_value found)
        by-found None e = refl
        by-found (Some s) e =
            letters-keyed "c=" 99 c.n (of_letters s) refl
            ∙ ap (line "c=") (string-text c.n s ((correction-is-earliest c bits).found s e).0.letters)

    module _ (count : length bits ≡ c.r) where
      by_bits : correction_by (syndrome_words c) (radius c) (mask_of_bits bits) ≡ correction_of (correction c bits)
      by_bits =
          corrections-by-value.by_words c (mask_of_bits bits)
          ∙ corrections-by-value.of_bits c bits within (count ∙ sym (length-generators c sized (limits c within)))

      line-answered : line_for (syndrome_words c) (radius c) c.r (mask_of_bits bits) ≡ correction_line c bits
      unfolding syndrome_words
      line-answered = ap₂ correction_text (qubits-have-words c within) by_bits ∙ found-text

      module _ (rest : List ℕ) where
        abbrev text : List ℕ
        text = syndrome_line_text bits ++ rest

        few : c.r ≤ row_room
        few = let l = limits c within in omega (arith, l.qubits, l.generator_count)

        -- Its line is read as its mask, and the rest stands behind it.
        abbrev IsRead : Type 0
        IsRead =
            (mask_line c.r text ≡ Some (mask_of_bits bits)) × (drop (syndrome_length c.r) text ≡ rest)

        line-masked : IsRead
        unfolding line_fault
        line-masked = by-line (mask_line c.r text) refl
          where
            by-line : (x : Option ℕ) → mask_line c.r text ≡ x → IsRead
            by-line (Some m) e =
                let told = syndrome-lines-are-read.line c 0 text m e in
                let same = same_line (sym told.1 ∙ line_read c 0 bits rest count) in
                (e ∙ ap Some (told.2 ∙ ap mask_of_bits same.0), same.1)
            by-line None e =
                let off = syndrome-lines-are-read.malformed c 0 text _ few (ap (line_fault 0) e) in
                absurd (not_stopped (sym (line_read c 0 bits rest count) ∙ off))

  -- ---- all syndromes

  abbrev lines : List ℕ → List ℕ
  lines = lines_for (syndrome_words c) (radius c) c.r

  lines-answered : (syndromes : List (List Bool)) → HaveRBits c syndromes
      → lines (syndromes_text syndromes) ≡ flat_map (correction_line c) syndromes
  unfolding flat_map
  lines-answered [] all = lines-ended (syndrome_words c) (radius c) c.r
  lines-answered (bits ∷ more) all =
      let (masked, behind) = line-masked bits all.0 (syndromes_text more) in
      lines_more (syndrome_words c) (radius c) c.r (syndromes_text (bits ∷ more)) (mask_of_bits bits) masked
      ∙ ap₂ ◌++◌ (line-answered bits all.0) (ap lines behind ∙ lines-answered more all.1)

pub correction-lines-are-reported : CorrectionLinesAreReported
correction-lines-are-reported c at s syndromes sized within e =
    let any : Refusal → Type 0 = λ refusal. Unit in
    let outcome = syndromes-outcome c {Stop = any} (length s) at (at + length s) s (omega arith) (λ m few. tt) in
    let (all, text) = what_was-got outcome e in
    ap (lines c sized within) text ∙ lines-answered c sized within syndromes all
