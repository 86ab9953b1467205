-- Corrections of one letter or none, which need no words: what is found there is the correction, and where t allows no
-- more there is none.
use Rattle.std.specs.Prelude.{Option, Some, None}
use Rattle.letter_sums.specs.Sums.{masks_at}
use Rattle.std.specs.Option.{is_some}
use mathlib.Core.Bool.{Bool, true, false}
use mathlib.Core.Logic.{◌⊎◌, inl, inr}
use mathlib.Core.Path.{◌≡◌, refl, ap, sym, ◌∙◌}
use Prim.Native.Nat.{ℕ, ◌<◌, ◌≤◌}
use native.Mathlib.Omega.{arith}
use Rattle.letters.specs.declared.Sign.TheVariants.{Plus}
use Rattle.pauli.specs.Letters.{row_of}
use Rattle.code_record.specs.declared.Code.{Code}
use Rattle.code_record.specs.Record.{generators, radius}
use Rattle.letter_sums.specs.declared.FoundMasks.{FoundMasks}
use Rattle.letter_sums.specs.Sums.{found_as}
use Rattle.letter_sums.proofs.Masks.{unfound, found-again, identity-found, nothing-found}
use Rattle.letter_words.specs.Words.{word_qubits, with_generators, earliest_with}
use Rattle.letter_words.specs.Lone.{lone_letter}
use Rattle.letter_words.proofs.LoneLetters.{none_needed, none_allowed, one-is-enough, one-is-not-enough}
use Rattle.corrections.specs.Corrections.{correction_for, of_masks}
use Rattle.corrections.proofs.ByValue.{of-masks}

module _ (c : Code) (mask : ℕ) where
  -- What was found is the correction where it is what the definition finds.
  found-by : (found : Option FoundMasks) → found ≡ found_as (earliest_with c (radius c) mask)
      → of_masks found ≡ correction_for c mask
  unfolding correction_for
  found-by found e = ap of_masks e ∙ of-masks (earliest_with c (radius c) mask)

  -- Of a record nothing but n, r and the generators' rows matters to its letters.
  of-rows : lone_letter (with_generators c.n c.r c.g) mask ≡ lone_letter c mask
  unfolding lone_letter word_qubits generators
  of-rows = refl

  pub unstruck : mask ≡ 0 → Some (row_of Plus 0 0) ≡ correction_for c mask
  unfolding of_masks
  unstruck e = found-by (masks_at 0 0) (identity-found (word_qubits c) _ (none_needed c mask e (radius c)))

  module _ (struck : mask ≡ 0 → ⊥) where
    pub none-allowed-by : radius c < 1 → None ≡ correction_for c mask
    unfolding of_masks
    none-allowed-by few = found-by None (nothing-found _ (none_allowed c mask struck (radius c) few))

    -- One letter is enough where one is found, and where t allows no more there is none.
    pub by-one-letter : (t : ℕ) → t ≡ radius c → 1 ≤ t → (found : Option FoundMasks)
        → found ≡ found_as (lone_letter (with_generators c.n c.r c.g) mask) → (there : Bool) → there ≡ is_some found
        → (there ≡ true) ⊎ ((there ≡ false) × (t < 2)) → of_masks found ≡ correction_for c mask
    by-one-letter t own room found e there known (inl h) =
        found-by found
        (found-again found (lone_letter c mask) _ (e ∙ ap found_as of-rows) (sym known ∙ h)
        (one-is-enough c mask struck (radius c) (omega arith)))
    by-one-letter t own room found e there known (inr h) =
        let none = unfound found (lone_letter c mask) (e ∙ ap found_as of-rows) (sym known ∙ h.0) in
        found-by found
        (e
        ∙ ap found_as (of-rows ∙ none
        ∙ sym (one-is-not-enough c mask struck (radius c) (omega (arith, h.1)) none)))
