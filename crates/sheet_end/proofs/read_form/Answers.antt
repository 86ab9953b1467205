-- A refusal of the lines stays; bytes behind them are one.
use mathlib.Core.Path.{ap, ◌∙◌}
use native.Mathlib.Omega.{arith}
use Rattle.sheet.specs.Reader.{read_lines, read_form, lines_reading, form_reading}
use Rattle.sheet.proofs.ReadBack.{reads-are-lawful, read-within}
use Rattle.sheet_end.proofs.Form.{claim-near, form-refused, form-behind, form-whole}
use Rattle.sheet_end.proofs.read_form.Goals as goal

pub returns-in_default : goal.returns-in_default
unfolding form_reading read_form lines_reading
returns-in_default c =
    let s = c.args.s.now in
    form-refused s _ (read_lines s) c.read_lines-reading.ensures c.in_default.is

pub overflow_add-reading : goal.overflow_add-reading
unfolding lines_reading
overflow_add-reading c =
    let s = c.args.s.now in
    omega
    (arith, ap (λ x. x.claim_at) c.read_lines-reading.ensures, claim-near s (read_lines s) (reads-are-lawful s))

pub returns-then-used-s : goal.returns-then-used-s
unfolding form_reading read_form lines_reading
returns-then-used-s c =
    let s = c.args.s.now in
    c.off_form.ensures
    ∙ form-behind s _ c.in-Ok.is (read_lines s) c.read_lines-reading.ensures c.if-used-s.true

pub returns : goal.returns
unfolding form_reading read_form lines_reading
returns c =
    let s = c.args.s.now in
    form-whole s _ c.in-Ok.is (read_lines s) c.read_lines-reading.ensures c.if-used-s.false (read-within s)
