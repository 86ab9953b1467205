-- A refusal of the syndrome call and of the decode call leaves the buffer as it was, and so does the answer `none`: the
-- outcomes of each call, taken one by one. `none` counts as a refusal here, so that one walk serves both.
use Rattle.std.specs.Prelude.{Option, Some, None, Result, Ok, Err}
use Rattle.std.specs.Result.{result_err}
use mathlib.Core.List.{List}
use mathlib.Core.Path.{◌≡◌, refl, ap}
use Prim.Native.Nat.{ℕ}
use Rattle.pauli.specs.declared.Pauli.{Pauli}
use Rattle.letters.specs.declared.Letter.{Letter}
use Rattle.code_record.specs.declared.Code.{Code}
use Rattle.refusals.specs.declared.Refusal.{Refusal}
use Rattle.sheet.specs.Statements.{RefusalLeaves}
use Rattle.sheet.proofs.Untouched.{answer-leaves, untouched-leaves, guarded-leaves}
use Rattle.decoder.specs.declared.Decoded.{Decoded}
use Rattle.decoder.specs.Correction.{corrected, decode}
use Rattle.decoder.specs.Statements.{DecoderRefusalsLeave}
use Rattle.decoder.specs.Syndrome.{write_syndrome}

syndrome-leaves : (c : Code) (P : Pauli) (buffer : List ℕ)
    → RefusalLeaves result_err buffer (write_syndrome c P buffer)
unfolding write_syndrome
syndrome-leaves c P buffer = guarded-leaves result_err buffer _ _ (answer-leaves result_err buffer _ refl)

-- Whichever answers but a correction are counted as refusals: they leave the buffer.
module _ (refusalOf : Result Decoded Refusal → Option Refusal)
    (correction-is-none : refusalOf (Ok Decoded.Correction) ≡ None) where
  corrected-leaves : (found : Option (List Letter)) (buffer : List ℕ)
      → RefusalLeaves refusalOf buffer (corrected found buffer)
  unfolding corrected
  corrected-leaves None buffer = untouched-leaves refusalOf buffer (Ok Decoded.None)
  corrected-leaves (Some s) buffer = answer-leaves refusalOf buffer _ correction-is-none

  decode-leaves : (c : Code) (characters buffer : List ℕ) → RefusalLeaves refusalOf buffer (decode c characters buffer)
  unfolding decode
  decode-leaves c characters buffer = guarded-leaves refusalOf buffer _ _ (corrected-leaves _ buffer)

-- Each answer but a correction, counted as a refusal: which refusal does not matter.
no_correction : Result Decoded Refusal → Option Refusal
no_correction (Ok Decoded.Correction) = None
no_correction (Ok Decoded.None) = Some Refusal.ShortBuffer
no_correction (Err refusal) = Some refusal

none-leaves : (c : Code) (characters buffer : List ℕ) → (decode c characters buffer).answer ≡ Ok Decoded.None
    → (decode c characters buffer).buffer ≡ buffer
unfolding no_correction
none-leaves c characters buffer h =
    (decode-leaves no_correction refl c characters buffer).unchanged Refusal.ShortBuffer (ap no_correction h)

pub decoder-refusals-leave : DecoderRefusalsLeave
decoder-refusals-leave =
    record { syndromes = syndrome-leaves; corrections = decode-leaves result_err refl; missing = none-leaves }
