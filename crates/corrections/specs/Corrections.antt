-- Corrections by value: of a syndrome that is given as a mask.
use Rattle.pauli.specs.declared.Pauli.{Pauli}
use Rattle.std.specs.Prelude.{Option, Some, None}
use Rattle.std.specs.Option.{option_map}
use Rattle.std.specs.Prelude.{List, ℕ}
use Rattle.letters.specs.declared.Letter.{Letter}
use Rattle.letters.specs.declared.Sign.TheVariants.{Plus}
use Rattle.pauli.specs.Letters.{row_of, of_letters}
use Rattle.code_record.specs.declared.Code.{Code}
use Rattle.code_record.specs.Record.{radius}
use Rattle.letter_sums.specs.declared.FoundMasks.{FoundMasks}
use Rattle.letter_sums.specs.declared.LetterWords.{LetterWords}
use Rattle.letter_sums.specs.Sums.{earliest_by}
use Rattle.letter_words.specs.Words.{earliest_with}

-- A string of letters as a correction: the row with sign +.
unfoldable pub correction_of : Option (List Letter) → Option Pauli
correction_of None = None
correction_of (Some s) = Some (of_letters s)

-- RULES, "Decoding": the correction for a syndrome, whose first generator's bit is the lowest of the mask. Letters are
-- put on the qubits that have words: all n of a record within limits.
unfoldable pub correction_for : Code → ℕ → Option Pauli
correction_for c mask = correction_of (earliest_with c (radius c) mask)

-- The masks that a search found, as a correction.
unfoldable pub of_masks : Option FoundMasks → Option Pauli
of_masks found = option_map (λ masks. row_of Plus masks.a masks.b) found

-- The correction of weight at most t by the words of a code's letters.
unfoldable pub correction_by : LetterWords → ℕ → ℕ → Option Pauli
correction_by words t mask = of_masks (earliest_by words t mask 1)
