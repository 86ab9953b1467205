-- The `c=` lines of a report, by the words of a code's letters.
use Rattle.std.specs.Prelude.{Option, Some, None, Bool, ◌&&◌, List, [], ◌++◌, ℕ, zero, suc, leb, length, drop}
use Rattle.code_record.specs.Record.{most_qubits, between}
use Rattle.letter_sums.specs.declared.LetterWords.{LetterWords}
use Rattle.syndrome_lines.specs.SyndromeLines.{mask_line, syndrome_length}
use Rattle.corrections.specs.Corrections.{correction_by}
use Rattle.correction_writer.specs.Lines.{correction_text}

-- The line of the correction for a syndrome that was read, before those that follow. Where none was read nothing
-- follows.
unfoldable pub answered : LetterWords → ℕ → Option ℕ → List ℕ → List ℕ
answered words t None later = []
answered words t (Some m) later = correction_text words.qubits (correction_by words t m) ++ later

-- RULES, "The report": a `c=` line for each `s=` line. So many at most.
unfoldable pub correction_lines : ℕ → LetterWords → ℕ → ℕ → List ℕ → List ℕ
correction_lines zero words t r s = []
correction_lines (suc most) words t r s =
    answered words t (mask_line r s) (correction_lines most words t r (drop (syndrome_length r) s))

-- The `c=` lines for the `s=` lines of r generators with which the bytes begin, with corrections of weight at most t. A
-- line has a byte at least, so as many lines as bytes are enough.
unfoldable pub corrections_text : LetterWords → ℕ → ℕ → List ℕ → List ℕ
corrections_text words t r s = correction_lines (length s) words t r s

-- Whether a code may have so many qubits, and so many bytes hold the lines.
unfoldable pub corrections_fit : LetterWords → ℕ → ℕ → List ℕ → ℕ → Bool
corrections_fit words t r s room =
    between 2 most_qubits words.qubits && leb (length (corrections_text words t r s)) room
