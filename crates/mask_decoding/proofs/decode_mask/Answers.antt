-- The call answers as `decode_mask` says: 15, or 16, or as the search for the mask ended, as the tests go.
use Rattle.std.proofs.Common.{◌≡◌, true, false, arith}
use borrow.Author.Rules.{Fits-under}
use Rattle.code_record.specs.Record.{within_limits}
use Rattle.code_record.proofs.ArrayLengths.{sized_of}
use Rattle.code_record.proofs.Limits.{limits}
use Rattle.mask_decoding.proofs.Masks.{is_below, not-below, outside-limits, bit-above, has_searched}
use Rattle.mask_decoding.proofs.decode_mask.Goals as goal

pub returns-then-not-within_limits : goal.returns-then-not-within_limits
returns-then-not-within_limits c =
    let a = c.args in
    let broken : within_limits a.code ≡ false = cc in outside-limits a.code a.syndrome broken

pub overflow_cast-code : goal.overflow_cast-code
overflow_cast-code c =
    let within : within_limits c.args.code ≡ true = cc in
    let l = limits c.args.code within in Fits-under _ _ 32 (omega (arith, l.qubits, l.generator_count)) tt

pub overflow_shr-syndrome : goal.overflow_shr-syndrome
overflow_shr-syndrome c =
    let within : within_limits c.args.code ≡ true = cc in
    let l = limits c.args.code within in omega (arith, l.qubits, l.generator_count)

pub returns-then-syndrome-code-ne0 : goal.returns-then-syndrome-code-ne0
returns-then-syndrome-code-ne0 c =
    let a = c.args in
    let within : within_limits a.code ≡ true = cc in
    bit-above a.code a.syndrome within (not-below _ _ c.if-syndrome-code-ne0.true)

pub returns : goal.returns
returns c =
    let a = c.args in
    let within : within_limits a.code ≡ true = cc in
    has_searched a.code a.syndrome within (is_below _ _ c.if-syndrome-code-ne0.false)
    (sized_of a.code c.well_formed.0) c.correct.ensures
