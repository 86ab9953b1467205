-- The fault of a check of the logicals, by the place of the first logical at fault.
use Rattle.std.specs.Prelude.{Option, ℕ, ◌+◌, ltb, length}
use Rattle.code_record.specs.declared.Code.{Code}
use Rattle.code_record.specs.Record.{logicals_at, logical_count}
use Rattle.refusals.specs.declared.Family.{Family}
use Rattle.refusals.specs.declared.Refusal.{Refusal}
use Rattle.refusals.specs.Refusals.{refuse_if}
use Rattle.admission.specs.Logicals.{logicals, family_at}

-- It names the logical's line and family. Behind the last logical there is no fault.
unfoldable pub fault_at : (ℕ → Family → Refusal) → Code → ℕ → Option Refusal
fault_at refusal c place =
    refuse_if (ltb place (length (logicals c))) (refusal (logicals_at c + place) (family_at (logical_count c) place))
