-- The syndrome call, and the decode call on the characters of a syndrome, of a record within limits: 15 and 16 find
-- nothing, so the answer is 17 where there is no room, and else the syndrome, or the correction.
use Rattle.std.specs.Prelude.{Option, Some, None, Result, Ok, Err}
use Rattle.letters.specs.Options.{bind}
use mathlib.Core.Bool.{Bool, true}
use mathlib.Core.List.{List, map}
use mathlib.Core.Path.{◌≡◌, ap, ap₂, ◌∙◌}
use Prim.Native.Nat.{ℕ, ◌≤◌, ◌<◌}
use borrow.Author.Tests.{lt-ltb, le-ltb}
use lib.ListN.{length}
use Rattle.letters.specs.declared.Letter.{Letter}
use Rattle.letters.specs.Letters.{letter_byte}
use Rattle.pauli.specs.declared.Pauli.{Pauli}
use Rattle.pauli.specs.Syndrome.{syndrome}
use Rattle.code_record.specs.declared.Code.{Code}
use Rattle.refusals.specs.declared.Refusal.{Refusal}
use Rattle.code_record.specs.Record.{generators, within_limits, limits_fault}
use Rattle.refusals.specs.Refusals.{refuse_if, ◌then◌}
use Rattle.sheet.specs.Text.{After, laid, untouched, guarded, room_fault}
use Rattle.decoder.specs.declared.Decoded.{Decoded}
use Rattle.decoder.specs.Correction.{correction, corrected, decode}
use Rattle.decoder.specs.Syndrome.{syndrome_text, syndrome_fault, write_syndrome}
use Rattle.decoder.proofs.Bits.{syndrome-read}

-- ---- the syndrome call

room-for-syndrome : (c : Code) → within_limits c ≡ true → (buffer : List ℕ) → c.r ≤ length buffer
    → (limits_fault c then room_fault c.r buffer) ≡ None
unfolding limits_fault room_fault refuse_if ◌then◌
room-for-syndrome c within buffer room = rw (within, le-ltb (length buffer) c.r room)

pub syndrome-laid : (c : Code) (P : Pauli) → within_limits c ≡ true → (buffer : List ℕ) → c.r ≤ length buffer
    → write_syndrome c P buffer
    ≡ record { answer = Ok tt; buffer = laid (syndrome_text (syndrome (generators c) P)) buffer }
unfolding write_syndrome guarded
syndrome-laid c P within buffer room =
    let text = syndrome_text (syndrome (generators c) P) in
    let given : After (Result Unit Refusal) = record { answer = Ok tt; buffer = laid text buffer } in
    ap (λ fault. guarded Err fault buffer given) (room-for-syndrome c within buffer room)

-- ---- the decode call

module _ (c : Code) (bits : List Bool) (within : within_limits c ≡ true) (count : length bits ≡ c.r) where
  -- The checks of the call leave 17 to the room for n bytes.
  faults-by-room : (buffer : List ℕ)
      → (limits_fault c then syndrome_fault c.r (syndrome_text bits) then room_fault c.n buffer)
      ≡ room_fault c.n buffer
  unfolding limits_fault syndrome_fault refuse_if ◌then◌
  faults-by-room buffer = rw (within, syndrome-read c.r bits count)

  has_room : (buffer : List ℕ) → c.n ≤ length buffer → room_fault c.n buffer ≡ None
  unfolding room_fault refuse_if
  has_room buffer room = rw (le-ltb (length buffer) c.n room)

  lacks-room : (buffer : List ℕ) → length buffer < c.n → room_fault c.n buffer ≡ Some Refusal.ShortBuffer
  unfolding room_fault refuse_if
  lacks-room buffer short = rw (lt-ltb (length buffer) c.n short)

  -- The call by the fault of its room, and by what is found.
  abbrev ends : Option Refusal → Option (List Letter) → List ℕ → After (Result Decoded Refusal)
  ends fault found buffer = guarded Err fault buffer (corrected found buffer)

  ends-by-room : (buffer : List ℕ)
      → decode c (syndrome_text bits) buffer ≡ ends (room_fault c.n buffer) (correction c bits) buffer
  unfolding decode bind
  ends-by-room buffer =
      ap₂ (λ fault read. ends fault (bind read (correction c)) buffer) (faults-by-room buffer)
      (syndrome-read c.r bits count)

  pub decode-written : (s : List Letter) → correction c bits ≡ Some s → (buffer : List ℕ) → c.n ≤ length buffer
      → decode c (syndrome_text bits) buffer
      ≡ record { answer = Ok Decoded.Correction; buffer = laid (map letter_byte s) buffer }
  unfolding guarded corrected
  decode-written s found buffer room =
      ends-by-room buffer ∙ ap₂ (λ fault found. ends fault found buffer) (has_room buffer room) found

  pub decode-short : (buffer : List ℕ) → length buffer < c.n
      → decode c (syndrome_text bits) buffer ≡ untouched (Err Refusal.ShortBuffer) buffer
  unfolding guarded
  decode-short buffer short =
      ends-by-room buffer ∙ ap (λ fault. ends fault (correction c bits) buffer) (lacks-room buffer short)
