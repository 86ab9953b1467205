-- The checks in their order, each where those before it passed.
use Rattle.std.specs.Result.{result_err}
use Rattle.std.proofs.lemmas.Result.{err_from_is_err_and}
use mathlib.Core.Path.{ap, sym, ◌∙◌}
use Rattle.code_checks.proofs.ReadChecks.{generators-decide, later-found}
use Rattle.code_checks.proofs.check_read.Goals as goal

pub returns-in_err-rows : goal.returns-in_err-rows
returns-in_err-rows c =
    let a = c.args in
    let p = err_from_is_err_and c.from_residual.result c.from_residual.ensures.1 in
    rw (p.1, p.2)
    (ap result_err (sym c.in_err-rows.was)
    ∙ generators-decide a.at a.code c.eliminate_rows-rows.ensures c.in_err-rows.was)

pub returns : goal.returns
returns c =
    let a = c.args in
    later-found a.at a.code c.eliminate_rows-rows.ensures c.in_ok-rows.was
    c.behind_generators.result c.behind_generators.ensures
