-- What is stated of corrections by value.
use Rattle.std.specs.Prelude.{None}
use Rattle.std.specs.Prelude.{Bool, true, List, ◌≡◌, ℕ, ◌^◌, ◌≤◌, length}
use Rattle.pauli.specs.Syndrome.{mask_of_bits}
use Rattle.code_record.specs.declared.Code.{Code}
use Rattle.code_record.specs.Record.{generators, radius, within_limits}
use Rattle.letter_words.specs.Words.{syndrome_words}
use Rattle.decoder.specs.Correction.{correction}
use Rattle.corrections.specs.Corrections.{correction_of, correction_for, correction_by}

-- RULES, "Decoding": by value or as text, the correction is the same. A mask with a bit above the last generator's has
-- none. The correction can be had by words that were made before.
pub record CorrectionsByValue : Type 0 where
  pub of_bits : (c : Code) (bits : List Bool) → within_limits c ≡ true → length bits ≡ length (generators c)
      → correction_for c (mask_of_bits bits) ≡ correction_of (correction c bits)
  pub above : (c : Code) (mask : ℕ) → 2 ^ length (generators c) ≤ mask → correction_for c mask ≡ None
  pub by_words : (c : Code) (mask : ℕ) → correction_by (syndrome_words c) (radius c) mask ≡ correction_for c mask
