-- The byte behind the first digit decides.
use mathlib.Core.Bool.{cond}
use mathlib.Core.Path.{ap, sym, ◌∙◌}
use Rattle.sheet.specs.Reader.{qubit_digits}
use Rattle.number_reader.proofs.qubit_digits.Goals as goal

pub returns-then-line_feed_at : goal.returns-then-line_feed_at
unfolding qubit_digits
returns-then-line_feed_at c = ap (λ b. cond b 1 2) (sym c.if-line_feed_at.true ∙ c.line_feed_at.ensures)

pub returns-else-line_feed_at : goal.returns-else-line_feed_at
unfolding qubit_digits
returns-else-line_feed_at c = ap (λ b. cond b 1 2) (sym c.if-line_feed_at.false ∙ c.line_feed_at.ensures)
