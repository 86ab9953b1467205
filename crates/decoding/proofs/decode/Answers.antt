-- The answer of the call that counts its letters, without the count.
use Rattle.std.specs.Prelude.{Option, Some, None, Result, Ok, Err}
use Rattle.std.proofs.Common.{◌≡◌, ℕ, refl, ap, ◌∙◌, arith}
use Rattle.refusals.specs.declared.Refusal.{Refusal}
use Rattle.decoder.specs.declared.Decoded.{Decoded}
use Rattle.decoding.specs.Letters.{letters_decoded}
use Rattle.decoding.proofs.decode.Goals as goal

abbrev uncounted : Result (Option ℕ) Refusal → Result Decoded Refusal
uncounted (Ok (Some n)) = Ok Decoded.Correction
uncounted (Ok None) = Ok Decoded.None
uncounted (Err refusal) = Err refusal

counted_back : (n : ℕ) (answer : Result Decoded Refusal) → uncounted (letters_decoded n answer) ≡ answer
unfolding letters_decoded
counted_back n (Ok Decoded.Correction) = refl
counted_back n (Ok Decoded.None) = refl
counted_back n (Err refusal) = refl

pub returns-in_err-decode_letters-clause-value : goal.returns-in_err-decode_letters-clause-value
returns-in_err-decode_letters-clause-value c =
    let told = ap uncounted c.in_err-decode_letters.ensures.value ∙ counted_back _ _ in grind (arith, told)

pub returns-in-Some-clause-value : goal.returns-in-Some-clause-value
returns-in-Some-clause-value c =
    let told = rw c.in-Some.is at c.in_ok-decode_letters.ensures.value in ap uncounted told ∙ counted_back _ _

pub returns-in-None-clause-value : goal.returns-in-None-clause-value
returns-in-None-clause-value c =
    let told = rw c.in-None.is at c.in_ok-decode_letters.ensures.value in ap uncounted told ∙ counted_back _ _
