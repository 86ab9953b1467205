-- What is stated of the first logical that pairs wrongly.
use Rattle.std.specs.Prelude.{◌≡◌}
use Rattle.code_record.specs.declared.Code.{Code}
use Rattle.code_record.specs.Record.{Sized}
use Rattle.refusals.specs.declared.Refusal.{Refusal}
use Rattle.admission.specs.Logicals.{pairing_fault}
use Rattle.logical_pairs.specs.FaultAt.{fault_at}
use Rattle.logical_pairs.specs.FirstPlace.{first_unpaired}

-- RULES, "Admission": 10 is about the first logical that pairs wrongly.
abbrev pub PairingFaultIsAtFirst : Type 0
PairingFaultIsAtFirst =
    (c : Code) → Sized c → fault_at Refusal.LogicalPairing c (first_unpaired c) ≡ pairing_fault c
