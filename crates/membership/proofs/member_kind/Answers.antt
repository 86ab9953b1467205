-- A row that the canonical generators leave as +I is a member as it is, one that leaves -I with the other sign.
use mathlib.Core.Path.{ap, sym}
use Rattle.membership.specs.Answers.{kind_member}
use Rattle.membership.proofs.member_kind.Goals as goal

pub returns-in-PlusIdentity : goal.returns-in-PlusIdentity
returns-in-PlusIdentity c = ap kind_member (sym c.in-PlusIdentity.is)

pub returns-in-MinusIdentity : goal.returns-in-MinusIdentity
returns-in-MinusIdentity c = ap kind_member (sym c.in-MinusIdentity.is)
