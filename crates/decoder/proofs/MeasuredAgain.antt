-- The letters that a decode call wrote, measured and decoded again. Where it wrote some, its checks found nothing. So
-- the characters are the text of r bits, and the letters are their correction, which has these bits as its syndrome.
use Rattle.std.specs.Prelude.{Option, Some, None, Ok, Err}
use Rattle.letters.proofs.Options.{bind-some}
use mathlib.Core.List.{List}
use mathlib.Core.Path.{◌≡◌, refl, ap, ap₂, sym, ◌∙◌}
use Prim.Native.Nat.{ℕ, ◌≤◌}
use native.Mathlib.Omega.{arith}
use borrow.Author.Tests.{not-false}
use lib.ListN.{length, take, drop}
use lib.Seq.{take_at}
use Rattle.letters.specs.declared.Letter.{Letter}
use Rattle.pauli.specs.Letters.{of_letters}
use Rattle.refusals.specs.declared.Refusal.{Refusal}
use Rattle.code_record.specs.Record.{within_limits, limits_fault}
use Rattle.sheet.specs.Text.{laid, untouched, guarded}
use Rattle.stabilizer.proofs.Faults.{nothing_then, unrefused}
use Rattle.decoder.specs.declared.Decoded.{Decoded}
use Rattle.decoder.specs.Correction.{correction, corrected, decode}
use Rattle.decoder.specs.Statements.{DecodedIsMeasuredAgain}
use Rattle.decoder.specs.Syndrome.{syndrome_text, read_syndrome, write_syndrome}
use Rattle.decoder.proofs.Bits.{read_length, syndrome-written}
use Rattle.decoder.proofs.Decode.{syndrome-laid, decode-written}
use Rattle.decoder.proofs.Earliest.{correction-is-earliest}

-- ---- what a correction answered says of the call

answered-correction : (fault : Option Refusal) (found : Option (List Letter)) (buffer : List ℕ)
    → (guarded Err fault buffer (corrected found buffer)).answer ≡ Ok Decoded.Correction
    → (fault ≡ None) × (s : List Letter) × (found ≡ Some s)
unfolding guarded corrected untouched
answered-correction None None buffer h = let never : ◌≡◌ {A = ℕ} 0 1 = cc in absurd (omega arith)
answered-correction None (Some s) buffer h = (refl, s, refl)
answered-correction (Some refusal) found buffer h = let never : ◌≡◌ {A = ℕ} 0 1 = cc in absurd (omega arith)

-- ---- the letters measured again

pub decoded-is-measured-again : DecodedIsMeasuredAgain
unfolding decode limits_fault guarded corrected laid
decoded-is-measured-again c characters before h =
    let (faultless, s, answered) = answered-correction _ _ before h in
    let within = not-false (within_limits c) (unrefused _ _ (nothing_then (limits_fault c) _ faultless).0) in
    let (bits, read, found) = bind-some (read_syndrome c.r characters) (correction c) answered in
    let whole = read_length c.r characters bits read in
    let (count, text) = syndrome-written c.r characters bits whole read in
    let candidate = ((correction-is-earliest c bits).found s found).0 in
    let measured : (buffer : List ℕ) → c.r ≤ length buffer
    → write_syndrome c (of_letters s) buffer
    ≡ record { answer = Ok tt; buffer = laid characters buffer } =
    λ buffer fits. syndrome-laid c (of_letters s) within buffer fits
    ∙ ap (λ v. record { answer = Ok tt; buffer = laid v buffer })
    (ap syndrome_text candidate.matches ∙ sym text) in
    record {
      letters = s;
      count = candidate.letters;
      wrote = ap₂ (λ fault found. (guarded Err fault before (corrected found before)).buffer) faultless
          answered;
      measured = measured;
      again = λ first second fits room.
          ap (λ after. decode c (take c.r after.buffer) second) (measured first fits)
          ∙ ap (λ v. decode c v second) (take_at characters (drop (length characters) first) c.r whole)
          ∙ ap (λ v. decode c v second) text
          ∙ decode-written c bits within count s found second room;
    }
