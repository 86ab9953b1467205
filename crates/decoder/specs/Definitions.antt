-- Every definition of this layer and of those below it that computes, to be unfolded at once where an example is
-- computed: a proof that says `unfolding definitions` unfolds all that the lines below name.
use Rattle.admission.specs.Definitions.{definitions as definitions-admission}
use Rattle.decoder.specs.Syndrome.{bit_byte, read_bit, syndrome_text}
use Rattle.decoder.specs.Syndrome.{read_syndrome, syndrome_fault, write_syndrome}
use Rattle.decoder.specs.Correction.{has_syndrome, correction, corrected, decode}
use Rattle.decoder.specs.EndToEnd.{cycle}

unfoldable pub definitions : Unit {0}
unfolding bit_byte read_bit syndrome_text read_syndrome syndrome_fault write_syndrome
    has_syndrome correction corrected decode cycle definitions-admission
definitions = tt
