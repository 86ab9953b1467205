-- The call answers as `decode` says: 15, or 16, or 17, or as the search for the syndrome ended, as the tests go. Where
-- nothing was found, the buffer stays; where a string was, its letters fill the first n bytes.
use Rattle.std.specs.Prelude.{Some, None, Err}
use Rattle.std.proofs.Common.{◌≡◌, ◌∙◌, true, false, arith}
use Rattle.refusals.specs.declared.Refusal.{Refusal}
use Rattle.code_record.specs.Record.{radius, within_limits}
use Rattle.code_record.proofs.ArrayLengths.{sized_of}
use Rattle.letters_writer.proofs.Filled.{front-filled}
use Rattle.letter_words.specs.Words.{earliest_with}
use Rattle.syndrome_reader.specs.Mask.{read_mask}
use Rattle.corrections.specs.Corrections.{correction_for}
use Rattle.decoding.proofs.Outcomes.{outside-limits, no-syndrome, too_short, has_room}
use Rattle.decoding.proofs.Outcomes.{ends-none, ends-letters, found-count}
use Rattle.decoding.proofs.decode_letters.Goals as goal

pub returns-then-not-within_limits : goal.returns-then-not-within_limits
returns-then-not-within_limits c =
    let a = c.args in
    let broken : within_limits a.code ≡ false = cc in
    let told = outside-limits a.code a.characters.now a.out.now broken in
    record { value = told.0; out_after = told.1 }

pub returns-in_err-syndrome : goal.returns-in_err-syndrome
returns-in_err-syndrome c =
    let a = c.args in
    let within : within_limits a.code ≡ true = cc in
    let unread : read_mask a.code.r a.characters.now ≡ None = grind arith in
    let told = no-syndrome a.code a.characters.now a.out.now within unread in
    let refused : c.from_residual.result ≡ Err (Refusal.Syndrome 0) = grind arith in
    record { value = refused ∙ told.0; out_after = told.1 }

pub returns-then-out-code : goal.returns-then-out-code
returns-then-out-code c =
    let a = c.args in
    let within : within_limits a.code ≡ true = cc in
    let mask-read : read_mask a.code.r a.characters.now ≡ Some c.in_ok-syndrome.syndrome = grind arith in
    let told = too_short a.code a.characters.now a.out.now within _ mask-read c.if-out-code.true in
    record { value = told.0; out_after = told.1 }

pub returns-in_default : goal.returns-in_default
unfolding correction_for
returns-in_default c =
    let a = c.args in
    let within : within_limits a.code ≡ true = cc in
    let read : read_mask a.code.r a.characters.now ≡ Some c.in_ok-syndrome.syndrome = grind arith in
    let told =
    has_room a.code a.characters.now a.out.now within _ read (sized_of a.code c.well_formed.0)
    c.if-out-code.false
    (ends-none a.code.n (earliest_with a.code (radius a.code) c.in_ok-syndrome.syndrome) a.out.now
    c.in_default.ensures) in
    record { value = told.0; out_after = told.1 }

pub returns : goal.returns
unfolding correction_for
returns c =
    let a = c.args in
    let within : within_limits a.code ≡ true = cc in
    let read : read_mask a.code.r a.characters.now ≡ Some c.in_ok-syndrome.syndrome = grind arith in
    let told =
    has_room a.code a.characters.now a.out.now within _ read (sized_of a.code c.well_formed.0)
    c.if-out-code.false
    (ends-letters a.code.n (earliest_with a.code (radius a.code) c.in_ok-syndrome.syndrome) a.out.now _ _
    (found-count a.code (radius a.code) c.in_ok-syndrome.syndrome within) c.in-Some.ensures
    (front-filled a.code.n _ a.out.now _ c.if-out-code.false c.fill_letters.ensures)) in
    record { value = told.0; out_after = told.1 }
