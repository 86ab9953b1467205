-- What is stated of the lines, in the terms of the report's definitions.
use Rattle.std.specs.Prelude.{Bool, true, ◌≡◌, ℕ, length}
use mathlib.Core.List.{List, [], flat_map}
use Rattle.code_record.specs.declared.Code.{Code}
use Rattle.code_record.specs.Record.{radius, within_limits, Sized}
use Rattle.sheet.specs.Reader.{got}
use Rattle.letter_words.specs.Words.{syndrome_words}
use Rattle.reporting.specs.Report.{syndrome_lines, correction_line}
use Rattle.correction_lines.specs.CorrectionLines.{corrections_text}

-- RULES, "The report": by the words of a record within limits, the lines are the report's own: the correction of each
-- syndrome that was read.
abbrev pub CorrectionLinesAreReported : Type 0
CorrectionLinesAreReported =
    (c : Code) (at : ℕ) (s : List ℕ) (syndromes : List (List Bool)) → Sized c → within_limits c ≡ true
    → syndrome_lines (length s) c at s ≡ got syndromes []
    → corrections_text (syndrome_words c) (radius c) c.r s ≡ flat_map (correction_line c) syndromes
