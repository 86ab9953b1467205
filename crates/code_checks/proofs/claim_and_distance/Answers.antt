-- The second check is made where the first passes.
use Rattle.std.proofs.lemmas.Result.{err_from_is_err_and}
use mathlib.Core.Path.{◌∙◌}
use Rattle.distance.specs.Search.{distance_by}
use Rattle.code_checks.proofs.Sequence.{fault_first, none_first}
use Rattle.code_checks.proofs.claim_and_distance.Goals as goal

pub returns-in_err-check_claim : goal.returns-in_err-check_claim
returns-in_err-check_claim c =
    let a = c.args in
    let p = err_from_is_err_and c.from_residual.result c.from_residual.ensures.1 in
    rw (p.1, p.2) (fault_first _ (distance_by a.at a.code a.reduced) c.in_err-check_claim.ensures)

pub returns : goal.returns
returns c =
    let a = c.args in
    c.check_distance.ensures ∙ none_first _ (distance_by a.at a.code a.reduced) c.in_ok-check_claim.ensures
