-- No report takes more bytes than there are dots.
use Rattle.std.proofs.Common.{◌≡◌, ap, sym, ◌∙◌, arith, length}
use Rattle.std.proofs.lemmas.List.{length-replicate, length-take-le}
use Rattle.reporting.specs.Report.{longest_report}
use Rattle.test_cases.specs.Cases.{dot}
use Rattle.test_calls.proofs.reports.answer_report.Goals as goal

pub slice_bounds-write_into-end-5 : goal.slice_bounds-write_into-end-5
slice_bounds-write_into-end-5 c =
    let dots = c.many_dots-3.result in
    let held : length dots ≡ longest_report =
    ap length c.many_dots-3.ensures ∙ length-replicate longest_report dot in
    sym (length-take-le c.write_into-used.result dots (omega (arith, held, c.if-used-gt-REPORT_ROOM.false)))
