-- The report by the check of the lines, case by case.
use Rattle.std.proofs.Common.{◌+◌, ap, ◌∙◌, arith}
use Rattle.syndrome_lines.specs.SyndromeLines.{lines_fault}
use Rattle.syndrome_lines.proofs.Lines.{lines_before, few-before}
use Rattle.report_writer.specs.Reports.{write_by_fault, write_checked}
use Rattle.report_writer.proofs.report_of_code.Goals as goal

-- The lines before a fault are no more than the bytes.
pub overflow_add-at-in-Err : goal.overflow_add-at-in-Err
overflow_add-at-in-Err c =
    let count = ap lines_before c.in-Err.ensures in
    record { fits = omega (arith, count, few-before c.args.code.r c.args.behind.now, c.requires) }

pub returns-in-Ok : goal.returns-in-Ok
unfolding write_checked write_by_fault lines_fault
returns-in-Ok c =
    let a = c.args in
    let e = ap (λ lines. write_by_fault a.code a.reduced a.behind.now a.out.now (lines_fault (a.at + 1) lines))
    c.in-Ok.ensures in
    record {
      value = c.write_account.ensures.value ∙ ap (λ after. after.answer) e;
      out_after = c.write_account.ensures.out_after ∙ ap (λ after. after.buffer) e;
    }

pub returns-in-Err : goal.returns-in-Err
unfolding write_checked write_by_fault lines_fault
returns-in-Err c =
    let a = c.args in
    let e = ap (λ lines. write_by_fault a.code a.reduced a.behind.now a.out.now (lines_fault (a.at + 1) lines))
    c.in-Err.ensures in
    record {
      value = c.write_refusal.ensures.value ∙ ap (λ after. after.answer) e;
      out_after = c.write_refusal.ensures.out_after ∙ ap (λ after. after.buffer) e;
    }
