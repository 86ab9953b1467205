-- No line feed is behind the digits; or the part before it is read.
use mathlib.Core.Path.{sym, ◌∙◌}
use native.Mathlib.Omega.{arith}
use Rattle.sheet.specs.Reader.{read_number}
use Rattle.line_parts.specs.Values.{most_digits, up_to}
use Rattle.line_parts.proofs.LineValues.{value_none, value_read, feed-within}
use Rattle.number_reader.proofs.line_number.Goals as goal

pub returns-then-not-line_feed_at : goal.returns-then-not-line_feed_at
returns-then-not-line_feed_at c =
    sym
    (value_none 2 c.args.digits (up_to most_digits read_number) c.args.s.now (sym c.if-not-line_feed_at.ensures))

pub slice_bounds-read_number-end : goal.slice_bounds-read_number-end
slice_bounds-read_number-end c =
    omega (arith, feed-within 2 c.args.digits read_number c.args.s.now (sym c.if-not-line_feed_at.ensures))

pub returns : goal.returns
returns c =
    c.read_number.ensures
    ∙ sym
    (value_read 2 c.args.digits (up_to most_digits read_number) c.args.s.now (sym c.if-not-line_feed_at.ensures))
