-- A character for each of the test's two answers.
use mathlib.Core.Path.{ap, sym, ◌∙◌}
use mathlib.Core.Bool.{not}
use Rattle.pauli.specs.Product.{anticommutes}
use Rattle.decoder.specs.Syndrome.{bit_byte}
use Rattle.syndrome_writer.proofs.character.Goals as goal

pub returns-then-commutes : goal.returns-then-commutes
unfolding anticommutes bit_byte
returns-then-commutes c = ap (λ t. bit_byte (not t)) (sym c.if-commutes.true ∙ c.commutes.ensures)

pub returns-else-commutes : goal.returns-else-commutes
unfolding anticommutes bit_byte
returns-else-commutes c = ap (λ t. bit_byte (not t)) (sym c.if-commutes.false ∙ c.commutes.ensures)
