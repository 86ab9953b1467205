-- The answer of the call below, as numbers.
use Rattle.refusals.specs.declared.Refusal.{Refusal}
use Rattle.std.specs.Prelude.{Result, Ok, Err}
use mathlib.Core.Path.{◌≡◌, refl, ap, ◌∙◌}
use Prim.Native.Nat.{ℕ}
use lib.ListN.{length}
use Rattle.decoder.specs.declared.Decoded.{Decoded}
use Rattle.decoding.specs.Letters.{letters_decoded}
use Rattle.rack_answers.specs.Answers.{decoded_answer, letters_answer}
use Rattle.rack.specs.Calls.{in_numbers, decode_call}
use Rattle.rack.proofs.Lengths.{length-decoded}
use Rattle.rack.proofs.reinoften_decode.Goals as goal

-- The count that the call answers is n.
counted : (n : ℕ) (answer : Result Decoded Refusal)
    → letters_answer (letters_decoded n answer) ≡ decoded_answer n answer
unfolding letters_decoded
counted n (Ok Decoded.Correction) = refl
counted n (Ok Decoded.None) = refl
counted n (Err refusal) = refl

pub shape_of-out : goal.shape_of-out
shape_of-out c =
    ap length c.decode_letters.ensures.out_after ∙ length-decoded _ _ _

pub returns : goal.returns
unfolding decode_call in_numbers
returns c =
    let made = c.decode_letters.ensures in
    record { value = c.from.ensures ∙ ap letters_answer made.value ∙ counted _ _; out_after = made.out_after }
