-- What is stated of the checks of a record's logicals.
use Rattle.std.specs.Prelude.{Some, None, [], ◌∷◌, ◌≡◌}
use Rattle.refusals.specs.declared.Refusal.{Refusal}
use Rattle.refusals.specs.Refusals.{◌then◌}
use Rattle.code_record.specs.declared.Code.{Code}
use Rattle.code_record.specs.Record.{limits_fault, qubit_fault}
use Rattle.sheet.specs.Statements.{Among}
use Rattle.admission.specs.Logicals.{detected_fault, pairing_fault}

-- RULES, "Refusals": the numbers with which the call refuses.
abbrev pub LogicalRefusalNumbers : Type 0
LogicalRefusalNumbers =
    (c : Code) (refusal : Refusal) → (qubit_fault c.n then detected_fault c then pairing_fault c) ≡ Some refusal
    → Among (9 ∷ 10 ∷ 15 ∷ []) refusal

-- A record within limits passes the first of these checks.
abbrev pub WithinLimitsPasses : Type 0
WithinLimitsPasses = (c : Code) → limits_fault c ≡ None → qubit_fault c.n ≡ None
