-- The words of I, which are 0, are compared in turn.
use Rattle.letter_sums.proofs.Masks.{identity-found, nothing-found}
use Rattle.letter_sums.proofs.Words.{identity-fits, identity-unwanted, identity-shunned}
use Rattle.search.proofs.identity.Goals as goal
use Rattle.search.proofs.identity.Goals.{else-want-eq0-via-then-want-eq0+else-shun-ne0, else-want-eq0-via-else-want-eq0}

pub returns-then-shun-ne0 : goal.returns-then-shun-ne0
returns-then-shun-ne0 c first second n =
    let a = c.args in
    identity-found n _ (identity-fits first second n a.want a.shun c.if-want-eq0.true c.if-shun-ne0.true)

pub returns-else-want-eq0 : goal.returns-else-want-eq0
returns-else-want-eq0 c first second n =
    let a = c.args in
    elim c.else-want-eq0.branch [
      | else-want-eq0-via-then-want-eq0+else-shun-ne0 w ↦
          nothing-found _ (identity-shunned first second n a.want a.shun w.if-shun-ne0.false)
      | else-want-eq0-via-else-want-eq0 w ↦
          nothing-found _ (identity-unwanted first second n a.want a.shun w.if-want-eq0.false)
    ]
