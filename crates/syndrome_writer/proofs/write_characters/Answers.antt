-- The call answers as `write_syndrome` says: 15, or 17, or the characters, as the tests go.
use Rattle.std.proofs.Common.{◌≡◌, true, false, arith}
use Rattle.code_record.specs.Record.{within_limits}
use Rattle.code_record.proofs.Limits.{limits}
use Rattle.syndrome_writer.proofs.SyndromeText.{outside-limits, too_short, has_room}
use Rattle.syndrome_writer.proofs.write_characters.Goals as goal

pub returns-then-not-within_limits : goal.returns-then-not-within_limits
returns-then-not-within_limits c =
    let a = c.args in
    let broken : within_limits a.code ≡ false = cc in
    let told = outside-limits a.code a.p a.out.now broken in
    record { value = told.0; out_after = told.1 }

pub returns-then-out-code : goal.returns-then-out-code
returns-then-out-code c =
    let a = c.args in
    let within : within_limits a.code ≡ true = cc in
    let told = too_short a.code a.p a.out.now within c.if-out-code.true in
    record { value = told.0; out_after = told.1 }

pub characters-requires : goal.characters-requires
characters-requires c =
    let within : within_limits c.args.code ≡ true = cc in
    let l = limits c.args.code within in
    record { r_le_row_room = omega (arith, l.qubits, l.generator_count); r_in_bounds = c.if-out-code.false }

pub returns : goal.returns
returns c =
    let a = c.args in
    let within : within_limits a.code ≡ true = cc in
    let told = has_room a.code a.p a.out.now within c.if-out-code.false c.characters.ensures in
    record { value = told.0; out_after = told.1 }
