-- No row yet: the count is 0, and the array has +I in every place.
use mathlib.Core.Path.{ap}
use lib.ListN.{replicate}
use Rattle.code_record.specs.Record.{row_room, filled}
use Rattle.reduced_rows.specs.Rows.{reduced_of}
use Rattle.reduced_rows.proofs.Rows.{value}
use Rattle.reduced_rows.proofs.ReducedRows.empty.Goals as goal

pub returns : goal.returns
unfolding reduced_of filled
returns c = ap (λ one. value c.args.n 0 (replicate row_room one)) c.identity.ensures
