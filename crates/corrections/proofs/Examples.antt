-- Corrections by value, computed. The first generator's bit is the lowest of the mask.
use Rattle.std.specs.Prelude.{Some, None}
use mathlib.Core.Path.{◌≡◌, refl}
use Rattle.letters.specs.Lists.{bytes}
use Rattle.code_record.specs.declared.Code.{Code}
use Rattle.sheet.specs.Edges.{sheet_a, sheet_k}
use Rattle.letter_words.specs.Words.{word_qubits, earliest_with}
use Rattle.admission.specs.Admission.{read_sheet}
use Rattle.decoder.specs.Definitions.{definitions}
use Rattle.corrections.specs.Corrections.{correction_of, correction_for}

code_a : Code
code_a = (read_sheet (bytes sheet_a)).code

-- the syndrome 0001 is that of X on qubit 1, and 1010 that of Z
correction-x : correction_for code_a 8 ≡ Some (record { p = 0; a = 1; b = 0 })
unfolding code_a correction_for correction_of earliest_with word_qubits definitions
correction-x = refl

correction-z : correction_for code_a 5 ≡ Some (record { p = 0; a = 0; b = 1 })
unfolding code_a correction_for correction_of earliest_with word_qubits definitions
correction-z = refl

-- there is no fifth generator
correction-above : correction_for code_a 16 ≡ None
unfolding code_a correction_for correction_of earliest_with word_qubits definitions
correction-above = refl

-- t is 0
correction-none : correction_for (read_sheet (bytes sheet_k)).code 1 ≡ None
unfolding correction_for correction_of earliest_with word_qubits definitions
correction-none = refl
