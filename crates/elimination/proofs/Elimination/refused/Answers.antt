-- A refusal as the answer, and no row beside it.
use Rattle.std.specs.Prelude.{Err}
use mathlib.Core.Path.{ap}
use Rattle.elimination.specs.Answers.{eliminated}
use Rattle.elimination.proofs.Elimination.refused.Goals as goal

pub returns : goal.returns
unfolding eliminated
returns c =
    ap (λ rows. record { answer = Err c.args.refusal; reduced = rows }) c.empty.ensures
