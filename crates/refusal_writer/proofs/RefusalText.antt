-- The lines of a refusal: those of its two numbers, and of 14 those of the two errors behind them, with their length.
-- And what the call answers where there are no errors.
use Rattle.std.specs.Prelude.{None, Result}
use mathlib.Core.List.{List, [], ◌∷◌, ◌++◌, append_assoc, append-nil}
use mathlib.Core.Path.{◌≡◌, refl, ap, ap₂, sym, ◌∙◌}
use Prim.Native.Nat.{ℕ, ◌+◌, ◌*◌}
use native.Mathlib.Omega.{arith}
use lib.ListN.{length, length-append}
use Rattle.letters.specs.Lists.{bytes}
use Rattle.refusals.specs.declared.ErrorPair.{ErrorPair}
use Rattle.refusals.specs.declared.Refusal.{Refusal}
use Rattle.refusals.specs.declared.Refusal.TheVariants.{DistanceRefuted}
use Rattle.refusals.specs.declared.RefusalValues.{RefusalValues}
use Rattle.refusals.specs.Refusals.{values, answered_values}
use Rattle.sheet.specs.Text.{line, decimal, digits_of, written}
use Rattle.sheet.proofs.WrittenText.{Answers}
use Rattle.number_writer.specs.Lines.{number_text}
use Rattle.number_writer.proofs.Numbers.{length-number_text}
use Rattle.row_writer.specs.Lines.{letters_line_text}
use Rattle.row_writer.proofs.Lines.{letters-keyed, length-letters_line_text}
use Rattle.numbers_writer.specs.Numbers.{numbers_text}
use Rattle.numbers_writer.proofs.Numbers.{length-numbers_text}
use Rattle.reporting.specs.Report.{errors_text, refusal_text}
use Rattle.refusal_writer.specs.RefusalLines.{errors_fault, pair_fault}

-- The lines of a refusal's number and of the line that it names.
abbrev pub numbers : ℕ → ℕ → List ℕ
numbers number at = numbers_text (114 ∷ 61 ∷ []) number (97 ∷ 116 ∷ 61 ∷ []) at

-- ---- 14

module _ (at : ℕ) (pair : ErrorPair) where
  abbrev pub line_e : List ℕ
  line_e = letters_line_text 101 pair.n pair.e

  abbrev pub line_f : List ℕ
  line_f = letters_line_text 102 pair.n pair.f

  abbrev pub to_e : List ℕ
  to_e = numbers 14 at ++ line_e

  abbrev pub to_f : List ℕ
  to_f = to_e ++ line_f

  pub refutation-parts : to_f ≡ refusal_text (DistanceRefuted at pair)
  unfolding refusal_text errors_text numbers_text number_text line bytes
  refutation-parts =
      append_assoc (numbers 14 at) line_e line_f
      ∙ ap₂ (λ (e f : List ℕ). numbers 14 at ++ (e ++ f)) (letters-keyed "e=" 101 pair.n pair.e refl)
      (letters-keyed "f=" 102 pair.n pair.f refl)

  two_digits : length (decimal 14) ≡ 2
  unfolding decimal digits_of
  two_digits = refl

  pub length-refutation : length (refusal_text (DistanceRefuted at pair)) ≡ length (decimal at) + 9 + 2 * (pair.n + 3)
  length-refutation =
      ap length (sym refutation-parts)
      ∙ omega (
        arith,
        two_digits,
        length-append to_e line_f,
        length-append (numbers 14 at) line_e,
        length-numbers_text (114 ∷ 61 ∷ []) 14 (97 ∷ 116 ∷ 61 ∷ []) at,
        length-number_text (114 ∷ 61 ∷ []) 14,
        length-number_text (97 ∷ 116 ∷ 61 ∷ []) at,
        length-letters_line_text 101 pair.n pair.e,
        length-letters_line_text 102 pair.n pair.f,
      )

-- ---- the other refusals

module _ (refusal : Refusal) (plain : (values refusal).errors ≡ None) where
  plain-text : numbers (values refusal).number (values refusal).line ≡ refusal_text refusal
  unfolding refusal_text errors_text numbers_text number_text line bytes
  plain-text =
      let front = numbers (values refusal).number (values refusal).line in
      sym (append-nil front) ∙ ap (λ errors. front ++ errors_text errors) (sym plain)

  plain-sound : None ≡ pair_fault refusal
  unfolding pair_fault errors_fault
  plain-sound = sym (ap errors_fault plain)

  -- What the call for the two numbers answers is what that for the refusal has to.
  pub plain-answers : (buffer : List ℕ) (v : RefusalValues) → v ≡ answered_values (values refusal)
      → {answer : Result ℕ Refusal} {after : List ℕ}
      → Answers None (numbers v.number v.line) buffer answer after
      → Answers (pair_fault refusal) (refusal_text refusal) buffer answer after
  plain-answers buffer v told (answered, left) =
      let text : numbers v.number v.line ≡ refusal_text refusal =
      ap (λ (v : RefusalValues). numbers v.number v.line) told ∙ plain-text in
      let call = ap₂ (λ fault text. written fault text buffer) plain-sound text in
      (answered ∙ ap (λ after. after.answer) call, left ∙ ap (λ after. after.buffer) call)
