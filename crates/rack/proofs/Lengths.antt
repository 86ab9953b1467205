-- A call leaves a buffer as long as it was.
use Rattle.std.specs.Prelude.{Option, Some, None, Err}
use Rattle.letters.specs.Options.{bind}
use mathlib.Core.Bool.{Bool, true, false}
use mathlib.Core.List.{List, map}
use mathlib.Core.Path.{◌≡◌, refl, ap, sym, ◌∙◌}
use Prim.Native.Nat.{ℕ, ◌≤◌}
use native.Mathlib.Omega.{arith}
use borrow.Author.Tests.{ltb-false}
use lib.Dec.{ltb}
use lib.ListN.{length, length-map, length-take}
use Rattle.letters.specs.declared.Letter.{Letter}
use Rattle.letters.specs.Letters.{letter_byte}
use Rattle.pauli.specs.declared.Pauli.{Pauli}
use Rattle.pauli.specs.Syndrome.{syndrome}
use Rattle.pauli.proofs.SyndromeMask.{length-syndrome}
use Rattle.code_record.specs.declared.Code.{Code}
use Rattle.code_record.specs.Record.{generators, limits_fault}
use Rattle.refusals.specs.declared.Refusal.{Refusal}
use Rattle.refusals.specs.Refusals.{refuse_if, ◌then◌}
use Rattle.sheet.specs.Text.{After, laid, untouched, guarded, room_fault, written}
use Rattle.sheet.proofs.Laid.{length-laid}
use Rattle.decoder.specs.declared.Decoded.{Decoded}
use Rattle.decoder.specs.Correction.{correction, corrected, decode}
use Rattle.decoder.specs.Syndrome.{bit_byte, syndrome_text, write_syndrome, read_syndrome, syndrome_fault}
use Rattle.decoder.proofs.Earliest.{correction-is-earliest}

-- Where the checks end with that of m bytes: nothing is written unless there is room for them.
module _ {A : Type 0} (refused : Refusal → A) (m : ℕ) (buffer : List ℕ) (after : After A)
    (same : m ≤ length buffer → length after.buffer ≡ length buffer)
  where
    checked-length : (fault : Option Refusal)
        → length (guarded refused (fault then room_fault m buffer) buffer after).buffer ≡ length buffer
    unfolding guarded untouched ◌then◌ room_fault refuse_if
    checked-length (Some refusal) = refl
    checked-length None = by-room (ltb (length buffer) m) refl
      where
        by-room : (short : Bool) → ltb (length buffer) m ≡ short
            → length (guarded refused (refuse_if short Refusal.ShortBuffer) buffer after).buffer ≡ length buffer
        by-room true e = refl
        by-room false e = same (ltb-false (length buffer) m e)

pub length-written : (fault : Option Refusal) (text buffer : List ℕ)
    → length (written fault text buffer).buffer ≡ length buffer
unfolding written
length-written fault text buffer = checked-length _ (length text) buffer _ (length-laid text buffer) fault

pub length-measured : (c : Code) (P : Pauli) (buffer : List ℕ)
    → length (write_syndrome c P buffer).buffer ≡ length buffer
unfolding write_syndrome syndrome_text generators
length-measured c P buffer =
    checked-length _ c.r buffer _
    (λ room. length-laid (syndrome_text (syndrome (generators c) P)) buffer
    (omega (
      arith,
      length-map (syndrome (generators c) P) bit_byte,
      length-syndrome (generators c) P,
      length-take c.r c.g,
    )))
    (limits_fault c)

then-assoc : (first second third : Option Refusal)
    → ((first then second) then third) ≡ (first then second then third)
unfolding ◌then◌
then-assoc None second third = refl
then-assoc (Some refusal) second third = refl

-- A correction has n letters.
length-corrected : (c : Code) (found : Option (List Bool)) (buffer : List ℕ) → c.n ≤ length buffer
    → length (corrected (bind found (correction c)) buffer).buffer ≡ length buffer
unfolding corrected untouched bind
length-corrected c None buffer room = refl
length-corrected c (Some bits) buffer room = by-search (correction c bits) refl
  where
    by-search : (letters : Option (List Letter)) → correction c bits ≡ letters
        → length (corrected letters buffer).buffer ≡ length buffer
    by-search None e = refl
    by-search (Some s) e =
        length-laid (map letter_byte s) buffer
        (omega (arith, length-map s letter_byte, ((correction-is-earliest c bits).found s e).0.letters))

pub length-decoded : (c : Code) (characters buffer : List ℕ)
    → length (decode c characters buffer).buffer ≡ length buffer
unfolding decode
length-decoded c characters buffer =
    let after = corrected (bind (read_syndrome c.r characters) (correction c)) buffer in
    ap (λ fault. length (guarded Err fault buffer after).buffer)
    (sym (then-assoc (limits_fault c) (syndrome_fault c.r characters) (room_fault c.n buffer)))
    ∙ checked-length Err c.n buffer after (length-corrected c (read_syndrome c.r characters) buffer)
    (limits_fault c then syndrome_fault c.r characters)
