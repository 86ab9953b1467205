-- What the checks of a record answer, in the terms of the definitions.
use Rattle.std.specs.Prelude.{Option, ℕ}
use Rattle.std.specs.Result.{result_err}
use Rattle.code_record.specs.declared.Code.{Code}
use Rattle.code_record.specs.Record.{generators, limits_fault, qubit_fault}
use Rattle.refusals.specs.declared.Refusal.{Refusal}
use Rattle.refusals.specs.Refusals.{◌then◌}
use Rattle.stabilizer.specs.Canonical.{canonical_generators}
use Rattle.reduced_rows.specs.declared.ReducedRows.{ReducedRows}
use Rattle.elimination.specs.declared.Elimination.{Elimination}
use Rattle.elimination.specs.Answers.{eliminated, rows_elimination}
use Rattle.admission.specs.Admission.{code_fault}
use Rattle.admission.specs.Logicals.{detected_fault, pairing_fault}
use Rattle.claim_checks.specs.Claim.{claim_fault}
use Rattle.distance.specs.Search.{distance_by}

-- RULES, "Calls and buffers": 15, then 6 to 14, where w stands on the line `at`; and the canonical generators, none of
-- them beside a refusal.
unfoldable pub checked_code : ℕ → Code → Elimination
checked_code at c =
    eliminated (limits_fault c then code_fault at c) c.n (canonical_generators c.n (generators c))

-- The checks behind those of the generators, by the rows that these gave: 15 where no sheet has so many qubits, then 9
-- to 14.
abbrev pub later_fault : ℕ → Code → ReducedRows → Option Refusal
later_fault at c hs =
    (qubit_fault c.n then detected_fault c then pairing_fault c) then claim_fault at c hs then distance_by at c hs

-- RULES, "The order of the checks": the first fault of a record that was read. Of its limits, those of its generators
-- alone are asked for, and then come 6 to 14. A record within its limits has the same fault as from all checks.
unfoldable pub read_fault : ℕ → Code → Option Refusal
read_fault at c =
    let e = rows_elimination c.n c.r c.g in result_err e.answer then later_fault at c e.reduced
