-- Each case holds a line that is not far.
use Rattle.std.specs.Prelude.{Err}
use mathlib.Core.Path.{◌≡◌, ap, ◌∙◌}
use native.Mathlib.Omega.{arith}
use Rattle.rows_reader.specs.declared.RowsFault.{RowsFault}
use Rattle.rows_reader.specs.Answers.{before}
use Rattle.ordered_lines.proofs.lines_at.Goals as goal

pub overflow_add-result : goal.overflow_add-result
overflow_add-result c =
    let told : c.in-Err-OffForm.field-0 ≡ RowsFault.OffForm c.in-Err-OffForm.lines =
    rw c.in-Err-OffForm.is at c.in-Err-OffForm.field-0-is in
    omega (arith, ap before (c.in-Err-OffForm.is ∙ ap Err told))

pub overflow_add-result-in-Err-Miscounted : goal.overflow_add-result-in-Err-Miscounted
overflow_add-result-in-Err-Miscounted c =
    let told : c.in-Err-Miscounted.field-0 ≡ RowsFault.Miscounted c.in-Err-Miscounted.lines =
    rw c.in-Err-Miscounted.is at c.in-Err-Miscounted.field-0-is in
    omega (arith, ap before (c.in-Err-Miscounted.is ∙ ap Err told))
