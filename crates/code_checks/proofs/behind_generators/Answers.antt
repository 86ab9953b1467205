-- The later checks are made where those of the logicals pass.
use Rattle.std.proofs.lemmas.Result.{err_from_is_err_and}
use mathlib.Core.Path.{◌∙◌}
use Rattle.refusals.specs.Refusals.{◌then◌}
use Rattle.claim_checks.specs.Claim.{claim_fault}
use Rattle.distance.specs.Search.{distance_by}
use Rattle.code_checks.proofs.Sequence.{fault_first, none_first}
use Rattle.code_checks.proofs.behind_generators.Goals as goal

pub returns-in_err-check_logicals : goal.returns-in_err-check_logicals
returns-in_err-check_logicals c =
    let a = c.args in
    let later = claim_fault a.at a.code a.reduced then distance_by a.at a.code a.reduced in
    let p = err_from_is_err_and c.from_residual.result c.from_residual.ensures.1 in
    rw (p.1, p.2) (fault_first _ later c.in_err-check_logicals.ensures)

pub returns : goal.returns
returns c =
    let a = c.args in
    let later = claim_fault a.at a.code a.reduced then distance_by a.at a.code a.reduced in
    c.claim_and_distance.ensures ∙ none_first _ later c.in_ok-check_logicals.ensures
