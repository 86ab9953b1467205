-- Every definition of the record and of the crates below it that computes, to be unfolded at once where an example is
-- computed: a proof that says `unfolding definitions` unfolds all that is named below.
use Rattle.refusals.specs.Definitions.{definitions as definitions-refusals}
use Rattle.code_record.specs.Record.{pair_count, most_generators, logical_count, radius, generators, logical_xs}
use Rattle.code_record.specs.Record.{logical_zs, generators_at, logicals_at, claim_at, filled, code_of, empty_code}
use Rattle.code_record.specs.Record.{between, on_qubits, is_row, is_claim, are_rows, within_limits, limits_fault}
use Rattle.code_record.specs.Record.{qubit_fault}

unfoldable pub definitions : Unit {0}
unfolding pair_count most_generators logical_count radius generators logical_xs logical_zs generators_at logicals_at
    claim_at filled code_of empty_code between on_qubits is_row is_claim are_rows within_limits limits_fault
    qubit_fault definitions-refusals
definitions = tt
