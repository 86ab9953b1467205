-- The rows that were read stand before what the rest gives.
use Prim.Native.Nat.{min}
use Rattle.code_record.specs.Record.{row_room}
use Rattle.refusals.specs.Families.{row_key}
use Rattle.gathered_rows.proofs.Turns.{Turned}
use Rattle.gathered_rows.proofs.rows_up_to.Given as goal

abbrev pub invariant-loop-count : goal.invariant-loop-count
invariant-loop-count l = Turned (min l.fn.most row_room) (row_key l.family) l.n l.s l.rows l.count l.end
