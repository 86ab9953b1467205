-- The answer of the call below, as numbers.
use Rattle.refusals.specs.declared.Refusal.{Refusal}
use Rattle.std.specs.Prelude.{Result, Ok, Err}
use mathlib.Core.Path.{◌≡◌, refl, ap, ◌∙◌}
use Prim.Native.Nat.{ℕ}
use lib.ListN.{length}
use Rattle.syndrome_writer.specs.Characters.{characters_written}
use Rattle.rack_answers.specs.Answers.{written_answer, syndrome_answer}
use Rattle.rack.specs.Calls.{in_numbers, syndrome_call}
use Rattle.rack.proofs.Lengths.{length-measured}
use Rattle.rack.proofs.reinoften_syndrome.Goals as goal

-- The count that the call answers is r.
counted : (r : ℕ) (answer : Result Unit Refusal)
    → written_answer (characters_written r answer) ≡ syndrome_answer r answer
unfolding characters_written
counted r (Ok tt) = refl
counted r (Err refusal) = refl

pub shape_of-out : goal.shape_of-out
shape_of-out c =
    ap length c.write_characters.ensures.out_after ∙ length-measured _ _ _

pub returns : goal.returns
unfolding syndrome_call in_numbers
returns c =
    let made = c.write_characters.ensures in
    record { value = c.from.ensures ∙ ap written_answer made.value ∙ counted _ _; out_after = made.out_after }
