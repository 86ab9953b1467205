-- The numbers with which the call refuses: those of the checks, since its answer has their fault.
use Rattle.std.specs.Prelude.{Option, Some, None}
use Rattle.std.specs.Result.{result_err}
use mathlib.Core.Path.{◌≡◌, refl, sym, ◌∙◌}
use Rattle.letters.specs.declared.Sign.{Sign}
use Rattle.refusals.specs.declared.Refusal.{Refusal}
use Rattle.stabilizer.proofs.Theorems.{canonical-refusal-numbers}
use Rattle.membership.specs.Answers.{member_answer, membership}
use Rattle.membership.specs.Statements.{MembershipRefusalNumbers}

member-refusal : (fault : Option Refusal) (sign : Option Sign) → result_err (member_answer fault sign) ≡ fault
unfolding member_answer
member-refusal None None = refl
member-refusal None (Some sign) = refl
member-refusal (Some refusal) sign = refl

pub membership-refusal-numbers : MembershipRefusalNumbers
unfolding membership
membership-refusal-numbers c P refusal told =
    canonical-refusal-numbers.checks c refusal (sym (member-refusal _ _) ∙ told)
