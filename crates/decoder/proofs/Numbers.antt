-- The syndrome call refuses with 15 and 17, the decode call with 15, 16 and 17: each refusal is that of one of the
-- call's checks, and a correction or `none` carries none.
use Rattle.std.specs.Prelude.{Option, Some, None, Err}
use Rattle.std.specs.Result.{result_err}
use mathlib.Core.List.{List}
use mathlib.Core.Path.{refl}
use Prim.Native.Nat.{ℕ}
use Rattle.letters.specs.declared.Letter.{Letter}
use Rattle.letters.specs.Lists.{any_of}
use Rattle.refusals.specs.declared.Refusal.{Refusal}
use Rattle.sheet.specs.Text.{untouched}
use Rattle.sheet.proofs.Numbers.{IfRefused, law-of-refusal, refuse_if-lawful, then-lawful}
use Rattle.sheet.proofs.Numbers.{limits-lawful, room-lawful, guarded-lawful}
use Rattle.decoder.specs.Correction.{corrected, decode}
use Rattle.decoder.specs.Statements.{DecoderRefusalNumbers}
use Rattle.decoder.specs.Syndrome.{syndrome_fault, write_syndrome}

corrected-lawful : {Law : Refusal → Type 0} (found : Option (List Letter)) (buffer : List ℕ)
    → IfRefused Law (result_err (corrected found buffer).answer)
unfolding corrected untouched
corrected-lawful None buffer = IfRefused.unrefused
corrected-lawful (Some s) buffer = IfRefused.unrefused

pub decoder-refusal-numbers : DecoderRefusalNumbers
unfolding write_syndrome syndrome_fault decode any_of
decoder-refusal-numbers = record {
  syndromes = λ c P buffer. law-of-refusal
      (guarded-lawful result_err Err (λ refusal. refl) buffer _
      (then-lawful (limits-lawful c refl) (room-lawful c.r buffer refl)) IfRefused.unrefused);
  corrections = λ c characters buffer. law-of-refusal
      (guarded-lawful result_err Err (λ refusal. refl) buffer _
      (then-lawful (limits-lawful c refl) (then-lawful (refuse_if-lawful _ _ refl) (room-lawful c.n buffer refl)))
      (corrected-lawful _ buffer));
}
