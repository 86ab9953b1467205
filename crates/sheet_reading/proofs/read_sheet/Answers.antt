-- The lines are read, bytes behind them are a fault, and then the checks decide. A record that was read is within
-- limits, so that 15 is no answer.
use Rattle.std.proofs.Common.{◌≡◌, ◌∙◌, ◌<◌, length, arith}
use Rattle.sheet.specs.Reader.{form_reading, behind}
use Rattle.sheet_reading.proofs.FormChecked.{checks-decide, form-within, claim-small}
use Rattle.sheet_reading.proofs.FormChecked.{lines-refused, bytes-behind, nothing-behind}
use Rattle.sheet_reading.proofs.read_sheet.Goals as goal
use Rattle.sheet_reading.proofs.read_sheet.Goals.{Else-behind-gt0}

pub returns-in-Err : goal.returns-in-Err
returns-in-Err c =
    let lines = c.read_lines-reading in
    c.refused.ensures ∙ lines-refused c.args.s.now lines.result lines.ensures c.in-Err.is

pub overflow_add-reading : goal.overflow_add-reading
overflow_add-reading c =
    let lines = c.read_lines-reading in omega (arith, claim-small c.args.s.now lines.result lines.ensures)

pub returns-then-behind-gt0 : goal.returns-then-behind-gt0
returns-then-behind-gt0 c =
    let lines = c.read_lines-reading in
    let some : 0 < length (behind c.args.s.now lines.result.answer) = rw c.behind.ensures at c.if-behind-gt0.true in
    c.refused-then-behind-gt0.ensures
    ∙ bytes-behind c.args.s.now lines.result lines.ensures c.in_default.is some

-- Nothing is behind the lines.
whole : (c : Else-behind-gt0) → c.read_lines-reading.result ≡ form_reading c.args.s.now
whole c =
    let lines = c.read_lines-reading in
    nothing-behind c.args.s.now lines.result lines.ensures c.in_default.is
    (rw c.behind.ensures at c.if-behind-gt0.false)

pub judged-requires : goal.judged-requires
judged-requires c =
    form-within c.args.s.now c.read_lines-reading.result (whole (goal.at.judged-requires c).Else-behind-gt0)
    c.in_default.is

pub returns : goal.returns
returns c =
    c.judged.ensures
    ∙ checks-decide c.args.s.now c.read_lines-reading.result (whole (goal.at.returns c).Else-behind-gt0)
    c.in_default.is
