-- What is stated of the checks of a record's generators.
use Rattle.std.specs.Prelude.{Some, Ok, [], ◌∷◌, ◌≡◌}
use Rattle.std.specs.Result.{result_err}
use Rattle.pauli.specs.declared.Pauli.{Pauli}
use Rattle.code_record.specs.declared.Code.{Code}
use Rattle.refusals.specs.declared.Refusal.{Refusal}
use Rattle.code_record.specs.Record.{generators}
use Rattle.sheet.specs.Statements.{Among}
use Rattle.stabilizer.specs.Canonical.{reduces_to_identity}
use Rattle.stabilizer.specs.Group.{in_group_up_to_phase}
use Rattle.reduced_rows.specs.Rows.{rows_in}
use Rattle.elimination.specs.Answers.{elimination}

-- Of a record that passes the checks, the canonical generators contain a Pauli exactly where it is in the group, phase
-- aside: where some selection's product has its masks.
abbrev pub ContainsDecidesMembership : Type 0
ContainsDecidesMembership =
    (c : Code) → (elimination c).answer ≡ Ok tt → (P : Pauli)
    → reduces_to_identity (elimination c).reduced.n (rows_in (elimination c).reduced) P
    ≡ in_group_up_to_phase (generators c) P

-- RULES, "Refusals": the numbers with which the call refuses.
abbrev pub EliminationRefusalNumbers : Type 0
EliminationRefusalNumbers =
    (c : Code) (refusal : Refusal) → result_err (elimination c).answer ≡ Some refusal
    → Among (6 ∷ 7 ∷ 8 ∷ 15 ∷ []) refusal
