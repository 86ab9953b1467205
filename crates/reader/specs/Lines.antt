-- The reader of what is left behind the line of n.
use Rattle.std.specs.Prelude.{ℕ}
use Rattle.sheet.specs.Reader.{Reader, SheetRead, distance_line, ◌and_then◌}
use Rattle.ordered_lines.specs.Answers.{lines_from_g}

abbrev pub lines_from_d : ℕ → Reader SheetRead
lines_from_d n = distance_line and_then lines_from_g n
