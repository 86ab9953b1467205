-- Whether a record is within its limits: its numbers, then its used rows, family by family, then its unused rows, then
-- w. The first test that fails decides.
use Rattle.std.proofs.Common.{sym, arith}
use Rattle.std.proofs.lemmas.Bool.Decides.{nat_tests}
use Rattle.code_record.specs.Record.{within_limits, are_rows, logical_count}
use Rattle.code_record.proofs.ArrayLengths.{sized_of}
use Rattle.record_limits.proofs.GeneratorLimits.{numbers-say}
use Rattle.record_limits.proofs.within_limits.Goals as goal

pub returns-then-not-numbers_within : goal.returns-then-not-numbers_within
unfolding within_limits
returns-then-not-numbers_within c = grind (arith, nat_tests)

pub rows_pass-requires : goal.rows_pass-requires
rows_pass-requires c =
    let says = numbers-say c.args.code (sym c.if-not-numbers_within.ensures) in
    record { count = omega (arith, sized_of c.args.code c.well_formed.0); qubits = says.0 }

pub returns-then-not-rows_pass : goal.returns-then-not-rows_pass
unfolding within_limits are_rows
returns-then-not-rows_pass c = grind (arith, nat_tests)

pub rows_pass-requires-2 : goal.rows_pass-requires-2
rows_pass-requires-2 c =
    let says = numbers-say c.args.code (sym c.if-not-numbers_within.ensures) in
    record { count = omega (arith, sized_of c.args.code c.well_formed.0); qubits = says.0 }

pub returns-then-not-rows_pass-2 : goal.returns-then-not-rows_pass-2
unfolding within_limits are_rows logical_count
returns-then-not-rows_pass-2 c = grind (arith, nat_tests)

pub rows_pass-requires-3 : goal.rows_pass-requires-3
rows_pass-requires-3 c =
    let says = numbers-say c.args.code (sym c.if-not-numbers_within.ensures) in
    record { count = omega (arith, sized_of c.args.code c.well_formed.0); qubits = says.0 }

pub returns-then-not-rows_pass-3 : goal.returns-then-not-rows_pass-3
unfolding within_limits are_rows logical_count
returns-then-not-rows_pass-3 c = grind (arith, nat_tests)

pub is_claim-requires : goal.is_claim-requires
is_claim-requires c = (numbers-say c.args.code (sym c.if-not-numbers_within.ensures)).0

pub returns-then-are_unused : goal.returns-then-are_unused
unfolding within_limits are_rows logical_count
returns-then-are_unused c = grind (arith, nat_tests)

pub returns-else-are_unused : goal.returns-else-are_unused
unfolding within_limits are_rows logical_count
returns-else-are_unused c = grind (arith, nat_tests)
