-- 11 to 13 where canonical generators are known: membership in the group is what they reduce to I.
use Rattle.std.specs.Prelude.{Option, ℕ}
use Rattle.code_record.specs.declared.Code.{Code}
use Rattle.refusals.specs.declared.Refusal.{Refusal}
use Rattle.refusals.specs.Refusals.{refuse_if, ◌then◌}
use Rattle.stabilizer.specs.Canonical.{reduces_to_identity}
use Rattle.reduced_rows.specs.declared.ReducedRows.{ReducedRows}
use Rattle.reduced_rows.specs.Rows.{rows_in}
use Rattle.admission.specs.Distance.{claimed_weight_fault, claimed_detected_fault}

-- RULES, "Admission": 11 to 13 in this order. Each names the line that w stands on.
unfoldable pub claim_fault : ℕ → Code → ReducedRows → Option Refusal
claim_fault at c hs =
    claimed_weight_fault at c then claimed_detected_fault at c
    then refuse_if (reduces_to_identity hs.n (rows_in hs) c.w) (Refusal.ClaimedInGroup at)
