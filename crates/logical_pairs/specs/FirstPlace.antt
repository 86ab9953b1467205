-- The place of the first logical of a record that pairs wrongly.
use Rattle.std.specs.Prelude.{Bool, true, false, ℕ, zero, suc, length, take, get_or}
use Rattle.pauli.specs.Product.{identity}
use Rattle.code_record.specs.declared.Code.{Code}
use Rattle.code_record.specs.Record.{logical_count}
use Rattle.admission.specs.Logicals.{logicals, pairs_wrongly}

-- The first of so many places, from one on, that passes the test; the place behind them where none does.
unfoldable pub first_place : (ℕ → Bool) → ℕ → ℕ → ℕ
first_place test place zero = place
first_place test place (suc left) = elim (test place) [ true ↦ place | false ↦ first_place test (suc place) left ]

-- RULES, "Admission": whether the logical at a place pairs wrongly with an earlier one.
unfoldable pub unpaired_at : Code → ℕ → Bool
unpaired_at c place =
    pairs_wrongly (logical_count c) place 0 (take place (logicals c)) (get_or (logicals c) place identity)

unfoldable pub first_unpaired : Code → ℕ
first_unpaired c = first_place (unpaired_at c) 0 (length (logicals c))
