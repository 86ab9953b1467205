-- The starred sheets: every entry of the table is right, the answer of the sheet read by itself, the bytes of its
-- report, and with them what the report's call writes. Each is computed from the definitions.
use mathlib.Core.List.{Memᴰ}
use mathlib.Core.Path.{◌≡◌, refl}
use Prim.Native.String.{◌++◌}
use Rattle.letters.specs.Lists.{bytes}
use Rattle.pauli.proofs.Table.{each}
use Rattle.sheet.specs.Starred.{Entry, starred}
use Rattle.admission.proofs.Starred.{starred-answers}
use Rattle.reporting.specs.Definitions.{definitions}
use Rattle.reporting.specs.Report.{report_text}
use Rattle.reporting.specs.Statements.{StarredAreRight}
use Rattle.reporting.proofs.Call.{is-reported}

starred-reports : (e : Entry) → Memᴰ e starred → report_text (bytes (e.sheet ++ e.behind)) ≡ bytes e.report
unfolding definitions
starred-reports = each (λ e. report_text (bytes (e.sheet ++ e.behind))) (λ e. bytes e.report) starred refl

-- Every starred sheet has the answer and the report that the table gives it.
pub starred-right : StarredAreRight
starred-right e m = record {
  answer = starred-answers e m;
  report = starred-reports e m;
  call = is-reported _ _ (starred-reports e m);
}
