-- Membership with its sign: the checks first, then the sign that the canonical generators tell of the row + with P's
-- masks.
use Rattle.std.specs.Prelude.{Ok}
use Rattle.std.proofs.lemmas.Result.{err_from_is_err_and}
use mathlib.Core.Path.{ap, ◌∙◌}
use Rattle.reduced_rows.specs.RowKinds.{kind_of}
use Rattle.membership.proofs.Signs.{member-refused, member-told}
use Rattle.membership.proofs.membership_of.Goals as goal

pub returns-in_err-e : goal.returns-in_err-e
returns-in_err-e c =
    let p = err_from_is_err_and c.from_residual.result c.from_residual.ensures.1 in
    rw (p.1, p.2) (member-refused c.args.code c.args.p c.eliminate-e.ensures c.in_err-e.was)

-- What the row is to the canonical generators tells.
pub returns : goal.returns
returns c =
    let a = c.args in
    ap Ok c.member_kind.ensures
    ∙ member-told a.code a.p c.eliminate-e.ensures c.in_ok-e.was c.signed.ensures
    (c.kind_of.ensures ∙ ap kind_of c.reduce-left.ensures)
