-- A record outside its limits is refused with 15. Of any other the checks are made in their order, each where those
-- before it passed. The checks of its generators are those of the record.
use mathlib.Core.Path.{◌≡◌, sym, ◌∙◌}
use Rattle.elimination.specs.Answers.{elimination}
use Rattle.elimination.proofs.CheckOrder.{record-within}
use Rattle.code_checks.proofs.CheckOrder.{generators-refused, later-refused, later-passed}
use Rattle.code_checks.proofs.ReadChecks.{record-outside}
use Rattle.code_checks.proofs.check_code.Goals as goal

pub returns-then-not-within_limits : goal.returns-then-not-within_limits
returns-then-not-within_limits c =
    c.refused.ensures
    ∙ record-outside c.args.at c.args.code (sym c.within_limits.ensures ∙ c.if-not-within_limits.true)

pub returns-in_default : goal.returns-in_default
returns-in_default c =
    let a = c.args in
    let checked : c.eliminate_rows-generators.result ≡ elimination a.code =
    c.eliminate_rows-generators.ensures
    ∙ record-within a.code (sym c.within_limits.ensures ∙ c.if-not-within_limits.false) in
    generators-refused a.at a.code checked c.in_default.is

pub returns-in-Err : goal.returns-in-Err
returns-in-Err c =
    let a = c.args in
    let checked : c.eliminate_rows-generators.result ≡ elimination a.code =
    c.eliminate_rows-generators.ensures
    ∙ record-within a.code (sym c.within_limits.ensures ∙ c.if-not-within_limits.false) in
    c.refused-in-Err.ensures
    ∙ later-refused a.at a.code checked c.in-Ok.is c.behind_generators.result
    c.behind_generators.ensures c.in-Err.is

pub returns : goal.returns
returns c =
    let a = c.args in
    let checked : c.eliminate_rows-generators.result ≡ elimination a.code =
    c.eliminate_rows-generators.ensures
    ∙ record-within a.code (sym c.within_limits.ensures ∙ c.if-not-within_limits.false) in
    later-passed a.at a.code checked c.in-Ok.is c.behind_generators.result
    c.behind_generators.ensures c.in_default-behind_generators.is
