-- 1, or what the lines give.
use mathlib.Core.Bool.{cond}
use mathlib.Core.Path.{ap, sym, ◌∙◌}
use borrow.Author.Tests.{lt-ltb, le-ltb}
use lib.ListN.{length}
use Rattle.refusals.specs.declared.Refusal.{Refusal}
use Rattle.sheet.specs.Reader.{stop, sheet_lines, read_lines, answered, lines_reading}
use Rattle.reader.proofs.read_lines.Goals as goal

pub returns-then-s-gt-LONGEST_INPUT : goal.returns-then-s-gt-LONGEST_INPUT
unfolding lines_reading read_lines answered
returns-then-s-gt-LONGEST_INPUT c =
    let s = c.args.s.now in
    c.refused.ensures
    ∙ ap (λ b. answered s (cond b (stop Refusal.TooLong) (sheet_lines s)))
    (sym (lt-ltb 4096 (length s) c.if-s-gt-LONGEST_INPUT.true))

pub returns : goal.returns
unfolding lines_reading read_lines
returns c =
    let s = c.args.s.now in
    c.sheet_lines.ensures
    ∙ ap (λ b. answered s (cond b (stop Refusal.TooLong) (sheet_lines s)))
    (sym (le-ltb 4096 (length s) c.if-s-gt-LONGEST_INPUT.false))
