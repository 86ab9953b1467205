-- What is stated of 6 over a record's generators.
use Rattle.std.specs.Prelude.{Some, List, [], ◌∷◌, ◌≡◌, ℕ, take}
use Rattle.pauli.specs.declared.Pauli.{Pauli}
use Rattle.refusals.specs.declared.Refusal.{Refusal}
use Rattle.code_record.specs.Record.{first_generator_at}
use Rattle.sheet.specs.Statements.{Among}
use Rattle.stabilizer.specs.Checks.{first_fault, clash}

-- RULES, "Refusals": the numbers with which the call refuses.
abbrev pub CommutationRefusalNumbers : Type 0
CommutationRefusalNumbers =
    (r : ℕ) (g : List Pauli) (refusal : Refusal) → first_fault clash [] first_generator_at (take r g) ≡ Some refusal
    → Among (6 ∷ []) refusal
