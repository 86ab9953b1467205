-- The call answers as `write_sheet` says: 15, or 17, or the sheet's lines, as the tests go.
use Rattle.std.proofs.Common.{◌≡◌, true, arith}
use Rattle.code_record.specs.Record.{within_limits}
use Rattle.code_record.proofs.Tests.{passed, failed}
use Rattle.sheet.specs.Writer.{sheet_text, write_sheet}
use Rattle.sheet.proofs.WrittenText.{limits-broken, limits-kept, answers-fault, answers-short, answers-whole}
use Rattle.writer.proofs.write_sheet.Goals as goal

pub returns-then-not-within_limits : goal.returns-then-not-within_limits
unfolding write_sheet
returns-then-not-within_limits c =
    let a = c.args in
    let broken = failed c.within_limits.ensures c.if-not-within_limits.true-raw in
    let told = answers-fault (sheet_text a.code) a.out.now (limits-broken a.code broken) in
    record { value = told.0; out_after = told.1 }

pub sheet_length-requires : goal.sheet_length-requires
sheet_length-requires c = passed c.within_limits.ensures c.if-not-within_limits.false-raw

pub returns-then-out-sheet_length : goal.returns-then-out-sheet_length
unfolding write_sheet
returns-then-out-sheet_length c =
    let a = c.args in
    let within : within_limits a.code ≡ true = passed c.within_limits.ensures c.if-not-within_limits.false-raw in
    let told = answers-short (sheet_text a.code) a.out.now (limits-kept a.code within) (omega arith) in
    record { value = told.0; out_after = told.1 }

pub returns : goal.returns
unfolding write_sheet
returns c =
    let a = c.args in
    let within : within_limits a.code ≡ true = passed c.within_limits.ensures c.if-not-within_limits.false-raw in
    let told = answers-whole (sheet_text a.code) a.out.now (limits-kept a.code within) (omega arith)
    c.sheet_lines.ensures.value c.sheet_lines.ensures.out_after in
    record { value = told.0; out_after = told.1 }
