-- What owning such a value tells of its array: it has room for as many rows as a record's generators.
use mathlib.Core.List.{[], ◌∷◌}
use mathlib.Core.Path.{◌≡◌}
use lib.ListN.{length}
use denote.Laws.{Is}
use denote.Struct.Declared.{row}
use denote.Struct.Laws.{val}
use Rattle.code_record.specs.Record.{row_room}
use Rattle.reduced_rows.specs.declared.ReducedRows.{ReducedRows}
use Rattle.reduced_rows.specs.contracts.ReducedRows.{the_type}
use Rattle.reduced_rows.proofs.ReducedRows.TheLaws.{the_laws}

pub room_of : (hs : ReducedRows) → Is (row the_type) hs (val the_type the_laws hs ∷ [])
    → length hs.rows ≡ row_room
room_of hs owned = owned.1.1.1.1.0.1.0.1
