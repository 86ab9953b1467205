-- The numbers with which the call refuses: those of the checks, since its answer has their fault.
use mathlib.Core.Path.{sym, ◌∙◌}
use Rattle.stabilizer.proofs.Theorems.{canonical-refusal-numbers}
use Rattle.elimination.specs.Answers.{elimination}
use Rattle.elimination.specs.Statements.{EliminationRefusalNumbers}
use Rattle.elimination.proofs.Answered.{eliminated-refusal}

pub elimination-refusal-numbers : EliminationRefusalNumbers
unfolding elimination
elimination-refusal-numbers c refusal told =
    canonical-refusal-numbers.checks c refusal (sym (eliminated-refusal _ _ _) ∙ told)
