-- The starred sheets read by themselves: the answers in the table are right, families and the two errors of C among
-- them. Each is computed from the definitions.
use Rattle.std.specs.Result.{result_err}
use mathlib.Core.List.{Memᴰ}
use mathlib.Core.Path.{◌≡◌, refl}
use Rattle.letters.specs.Lists.{bytes}
use Rattle.pauli.proofs.Table.{each}
use Rattle.sheet.specs.Starred.{Entry, starred}
use Rattle.admission.specs.Admission.{read_sheet}
use Rattle.admission.specs.Definitions.{definitions}

pub starred-answers : (e : Entry) → Memᴰ e starred
    → result_err (read_sheet (bytes e.sheet)).answer ≡ e.refusal
unfolding definitions
starred-answers = each (λ e. result_err (read_sheet (bytes e.sheet)).answer) (λ e. e.refusal) starred refl
