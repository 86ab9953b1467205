-- The answer of the call below, as numbers.
use mathlib.Core.Path.{ap, ◌∙◌}
use lib.ListN.{length}
use Rattle.reporting.specs.Report.{write_report}
use Rattle.rack_answers.specs.Answers.{written_answer}
use Rattle.rack.specs.Calls.{in_numbers, report_call}
use Rattle.rack.proofs.Lengths.{length-written}
use Rattle.rack.proofs.reinoften_report.Goals as goal

pub shape_of-out : goal.shape_of-out
unfolding write_report
shape_of-out c =
    ap length c.write_report.ensures.out_after ∙ length-written _ _ _

pub returns : goal.returns
unfolding report_call in_numbers
returns c =
    let made = c.write_report.ensures in
    record { value = c.from.ensures ∙ ap written_answer made.value; out_after = made.out_after }
