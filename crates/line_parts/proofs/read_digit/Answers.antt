-- The byte is below 0's, or behind 9's, or between them.
use mathlib.Core.Path.{sym}
use Rattle.line_parts.proofs.Values.{not-a-digit, a-digit}
use Rattle.line_parts.proofs.read_digit.Goals as goal

pub returns-then-not-is_ascii_digit : goal.returns-then-not-is_ascii_digit
returns-then-not-is_ascii_digit c = sym (not-a-digit c.args.c c.if-not-is_ascii_digit.ensures.cases)

pub returns : goal.returns
returns c =
    let within = c.if-not-is_ascii_digit.ensures.cases in
    sym (a-digit c.args.c within.0 within.1)
