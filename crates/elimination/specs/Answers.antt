-- What the checks of a record's generators answer, in the terms of the definitions.
use Rattle.std.specs.Prelude.{Option, Some, None, Ok, Err, not, List, [], ℕ, take}
use Rattle.pauli.specs.declared.Pauli.{Pauli}
use Rattle.code_record.specs.declared.Code.{Code}
use Rattle.refusals.specs.declared.Refusal.{Refusal}
use Rattle.refusals.specs.Refusals.{refuse_if, ◌then◌}
use Rattle.code_record.specs.Record.{first_generator_at, generators}
use Rattle.record_limits.specs.Generators.{generators_within}
use Rattle.stabilizer.specs.Canonical.{canonical_generators}
use Rattle.stabilizer.specs.Checks.{first_fault, dependence, generator_fault, group_fault}
use Rattle.reduced_rows.specs.Rows.{reduced_of}
use Rattle.elimination.specs.declared.Elimination.{Elimination}

-- The canonical generators where there is no fault.
unfoldable pub eliminated : Option Refusal → ℕ → List Pauli → Elimination
eliminated None n hs = record { answer = Ok tt; reduced = reduced_of n hs }
eliminated (Some refusal) n hs = record { answer = Err refusal; reduced = reduced_of 0 [] }

-- 7 and 8 over rows, with the lines of a sheet's generators.
unfoldable pub independence : ℕ → List Pauli → Elimination
independence n rows =
    eliminated (first_fault dependence [] first_generator_at rows) n (canonical_generators n rows)

-- RULES, "Calls and buffers": 15 where n, r or the first r rows are outside their limits, then 6 to 8; and the
-- canonical generators.
unfoldable pub rows_elimination : ℕ → ℕ → List Pauli → Elimination
rows_elimination n r g =
    eliminated
    (refuse_if (not (generators_within n r g)) Refusal.RecordLimits then generator_fault first_generator_at (take r g))
    n
    (canonical_generators n (take r g))

-- RULES, "Calls and buffers": the same of a record, with all of its limits.
unfoldable pub elimination : Code → Elimination
elimination c = eliminated (group_fault c) c.n (canonical_generators c.n (generators c))
