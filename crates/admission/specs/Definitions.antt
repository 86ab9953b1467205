-- Every definition of this layer and of those below it that computes, to be unfolded at once where an example is
-- computed: a proof that says `unfolding definitions` unfolds all that the lines below name.
use Rattle.stabilizer.specs.Definitions.{definitions as definitions-stabilizer}
use Rattle.admission.specs.Logicals.{logicals, family_at, family_after, detected, pairs_wrongly, mispaired}
use Rattle.admission.specs.Logicals.{detected_fault, pairing_fault}
use Rattle.admission.specs.Distance.{claimed_weight_fault, claimed_detected_fault, claimed_in_group_fault}
use Rattle.admission.specs.Distance.{is_logical_error, logical_error_up_to, first_letters, other_letters}
use Rattle.admission.specs.Distance.{refuting_pair, distance_fault}
use Rattle.admission.specs.Admission.{fault_but_distance, code_fault, refused_reading, admitted}
use Rattle.admission.specs.Admission.{reading_of, checked, read_sheet}

unfoldable pub definitions : Unit {0}
unfolding logicals family_at family_after detected pairs_wrongly mispaired detected_fault pairing_fault
    claimed_weight_fault claimed_detected_fault claimed_in_group_fault is_logical_error logical_error_up_to
    first_letters other_letters refuting_pair distance_fault fault_but_distance code_fault refused_reading admitted
    reading_of checked read_sheet definitions-stabilizer
definitions = tt
