-- The number is compared with 0.
use mathlib.Core.Bool.{cond}
use mathlib.Core.Path.{ap, sym}
use borrow.Author.Tests.{eq-eqb, ne_eqb}
use Rattle.letter_words.proofs.all_or_none.Goals as goal

pub returns-then-number-eq0 : goal.returns-then-number-eq0
returns-then-number-eq0 c = sym (ap (λ t. cond t 4294967295 0) (eq-eqb c.args.number 0 c.if-number-eq0.true))

pub returns-else-number-eq0 : goal.returns-else-number-eq0
returns-else-number-eq0 c = sym (ap (λ t. cond t 4294967295 0) (ne_eqb c.args.number 0 c.if-number-eq0.false))
