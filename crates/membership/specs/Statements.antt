-- What is stated of the call.
use Rattle.std.specs.Prelude.{Some, [], ◌∷◌, ◌≡◌}
use Rattle.std.specs.Result.{result_err}
use Rattle.pauli.specs.declared.Pauli.{Pauli}
use Rattle.code_record.specs.declared.Code.{Code}
use Rattle.refusals.specs.declared.Refusal.{Refusal}
use Rattle.sheet.specs.Statements.{Among}
use Rattle.membership.specs.Answers.{membership}

-- RULES, "Refusals": the numbers with which it refuses.
abbrev pub MembershipRefusalNumbers : Type 0
MembershipRefusalNumbers =
    (c : Code) (P : Pauli) (refusal : Refusal) → result_err (membership c P) ≡ Some refusal
    → Among (6 ∷ 7 ∷ 8 ∷ 15 ∷ []) refusal
