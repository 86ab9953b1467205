-- A correction by value is that of the definition. The two searches go through the same strings, and where syndromes
-- have equally many bits their masks are equal exactly where their bits are.
use Rattle.std.specs.Prelude.{Option, Some, None}
use mathlib.Core.Bool.{Bool, true, false, true≢false}
use mathlib.Core.List.{List}
use mathlib.Core.Path.{◌≡◌, refl, ap, sym, ◌∙◌}
use Prim.Native.Nat.{ℕ, ◌^◌, ◌≤◌}
use native.Mathlib.Omega.{arith}
use borrow.Author.Tests.{eq-eqb, ne_eqb, eqb-true}
use lib.Dec.{eqb}
use lib.ListN.{length}
use Rattle.letters.specs.declared.Letter.{Letter}
use Rattle.letters.specs.Lists.{first_of}
use Rattle.pauli.specs.Letters.{signed_row, of_letters}
use Rattle.pauli.specs.Order.{strings_up_to}
use Rattle.pauli.specs.Syndrome.{syndrome, mask_of_bits, syndrome_mask}
use Rattle.pauli.proofs.EarlierOrder.{strings_up_to-listed}
use Rattle.pauli.proofs.First.{first-is-earliest, same-search}
use Rattle.pauli.proofs.SyndromeMask.{length-syndrome, mask-tells-bits}
use Rattle.pauli.proofs.Undetected.{syndrome-mask-lt}
use Rattle.code_record.specs.declared.Code.{Code}
use Rattle.code_record.specs.Record.{generators, radius, within_limits}
use Rattle.code_record.proofs.Limits.{limits}
use Rattle.letter_sums.specs.Sums.{found_as}
use Rattle.letter_words.specs.Words.{word_qubits, syndrome_words, earliest_with}
use Rattle.letter_words.proofs.Sums.{all-qubits, syndromes-are-summed}
use Rattle.decoder.specs.Correction.{correction, has_syndrome}
use Rattle.decoder.specs.Syndrome.{same_bits}
use Rattle.decoder.proofs.Earliest.{same-bits-is-right}
use Rattle.corrections.specs.Corrections.{correction_of, correction_for, of_masks, correction_by}
use Rattle.corrections.specs.Statements.{CorrectionsByValue}

-- ---- by words

pub of-masks : (found : Option (List Letter)) → of_masks (found_as found) ≡ correction_of found
unfolding of_masks found_as correction_of of_letters signed_row
of-masks None = refl
of-masks (Some s) = refl

by-words : (c : Code) (mask : ℕ) → correction_by (syndrome_words c) (radius c) mask ≡ correction_for c mask
unfolding correction_by correction_for
by-words c mask =
    ap of_masks ((syndromes-are-summed c).call (radius c) mask) ∙ of-masks (earliest_with c (radius c) mask)

-- ---- of bits

-- Equally many bits are compared by their masks.
same-bits-by-masks : (s t : List Bool) → length s ≡ length t → eqb (mask_of_bits s) (mask_of_bits t) ≡ same_bits s t
same-bits-by-masks s t count = go (same_bits s t) refl
  where
    go : (b : Bool) → same_bits s t ≡ b → eqb (mask_of_bits s) (mask_of_bits t) ≡ b
    go true e = eq-eqb (mask_of_bits s) (mask_of_bits t) (ap mask_of_bits ((same-bits-is-right s t).0 e))
    go false e =
        ne_eqb (mask_of_bits s) (mask_of_bits t)
        (λ m. true≢false (sym ((same-bits-is-right s t).1 (mask-tells-bits s t count m)) ∙ e))

-- All qubits of a record within limits have words.
pub qubits-have-words : (c : Code) → within_limits c ≡ true → word_qubits c ≡ c.n
qubits-have-words c within = all-qubits c (omega (arith, (limits c within).qubits))

module _ (c : Code) (bits : List Bool) (count : length bits ≡ length (generators c)) where
  same_test : (s : List Letter)
      → eqb (syndrome_mask (generators c) (of_letters s)) (mask_of_bits bits) ≡ has_syndrome c bits s
  unfolding syndrome_mask has_syndrome
  same_test s =
      same-bits-by-masks (syndrome (generators c) (of_letters s)) bits
      (length-syndrome (generators c) (of_letters s) ∙ sym count)

  pub same-correction : within_limits c ≡ true → earliest_with c (radius c) (mask_of_bits bits) ≡ correction c bits
  unfolding earliest_with correction
  same-correction within =
      same-search _ (has_syndrome c bits) (strings_up_to (word_qubits c) (radius c))
      (strings_up_to-listed (word_qubits c) (radius c)) (λ s meets. same_test s)
      ∙ ap (λ (n : ℕ). first_of (has_syndrome c bits) (strings_up_to n (radius c))) (qubits-have-words c within)

-- ---- of masks above

-- The syndromes of all strings are below the mask, so no string has it.
nothing_above : (c : Code) (mask : ℕ) → 2 ^ length (generators c) ≤ mask → earliest_with c (radius c) mask ≡ None
unfolding earliest_with
nothing_above c mask above = go (earliest_with c (radius c) mask) refl
  where
    go : (found : Option (List Letter)) → earliest_with c (radius c) mask ≡ found
        → earliest_with c (radius c) mask ≡ None
    go None e = e
    go (Some s) e =
        let first = first-is-earliest _ (strings_up_to (word_qubits c) (radius c))
        (strings_up_to-listed (word_qubits c) (radius c)) s e in
        let same = eqb-true (syndrome_mask (generators c) (of_letters s)) mask first.passes in
        absurd (omega (arith, syndrome-mask-lt (generators c) (of_letters s)))

pub corrections-by-value : CorrectionsByValue
unfolding correction_for correction_of
corrections-by-value = record {
  of_bits = λ c bits within count. ap correction_of (same-correction c bits count within);
  above = λ c mask above. ap correction_of (nothing_above c mask above);
  by_words = by-words;
}
