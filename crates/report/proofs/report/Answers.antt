-- A buffer that holds every report holds this one, and it stands at the buffer's start.
use Rattle.std.proofs.Common.{◌≡◌, ℕ, List, ◌∙◌}
use mathlib.Core.Logic.{inl}
use mathlib.Core.Path.{ap₂}
use lib.ListN.{length, take, drop}
use lib.Seq.{take-append_seam}
use Rattle.sheet.specs.Text.{laid}
use Rattle.sheet.proofs.WrittenText.{count-is, content-is}
use Rattle.reporting.specs.Report.{report_text}
use Rattle.reporting.proofs.Call.{report-is-written}
use Rattle.report.proofs.report.Goals as goal

front : (text buffer : List ℕ) → take (length text) (laid text buffer) ≡ text
unfolding laid
front text buffer = take-append_seam text (drop (length text) buffer)

pub returns : goal.returns
returns c =
    let text = report_text c.args.input.now in
    let buffer = c.args.out.now in
    let whole = (report-is-written c.args.input.now buffer).written (inl c.requires) in
    let count = count-is text buffer whole c.write_report.ensures.value c.bytes_written.ensures in
    record {
      value = count;
      out_after = ap₂ take count (content-is text buffer whole c.write_report.ensures.out_after) ∙ front text buffer;
    }
