-- The report's call writes the report's text where it has room, and else refuses with 17: it has no check but the room,
-- and the longest report has room in every buffer of that length.
use Rattle.std.specs.Prelude.{None}
use mathlib.Core.List.{List}
use mathlib.Core.Logic.{◌⊎◌, inl, inr}
use mathlib.Core.Path.{◌≡◌, refl, ap, ◌∙◌}
use Prim.Native.Nat.{ℕ, ◌≤◌}
use native.Mathlib.Omega.{arith}
use lib.ListN.{length}
use Rattle.sheet.specs.Text.{written}
use Rattle.sheet.proofs.WrittenText.{written-short, written-whole}
use Rattle.reporting.specs.Report.{longest_report, report_text, write_report}
use Rattle.reporting.specs.Statements.{IsReported, ReportIsWritten}
use Rattle.reporting.proofs.Fits.{report-fits}

pub is-reported : (input text : List ℕ) → report_text input ≡ text → IsReported input text
unfolding write_report
is-reported input text e buffer = record {
  written = λ room. call ∙ written-whole text buffer refl (enough room);
  short = λ small. call ∙ written-short text buffer refl small;
}
  where
    call : written None (report_text input) buffer ≡ written None text buffer
    call = ap (λ (t : List ℕ). written None t buffer) e

    enough : (longest_report ≤ length buffer) ⊎ (length text ≤ length buffer) → length text ≤ length buffer
    enough (inl h) = omega (arith, report-fits input, ap length e)
    enough (inr h) = h

pub report-is-written : ReportIsWritten
report-is-written input = is-reported input (report_text input) refl
