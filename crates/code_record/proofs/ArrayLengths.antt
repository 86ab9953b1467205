-- Each array of a record that a function is given has its room: the record's type says so, field by field.
use mathlib.Core.List.{[], ◌∷◌}
use mathlib.Core.Path.{◌≡◌}
use lib.ListN.{length}
use denote.Laws.{Is}
use denote.Struct.Declared.{row}
use denote.Struct.Laws.{val}
use Rattle.code_record.specs.declared.Code.{Code}
use Rattle.refusals.specs.declared.Family.{Family}
use Rattle.refusals.specs.declared.Family.TheVariants.{Generator, LogicalX, LogicalZ}
use Rattle.code_record.specs.Record.{row_room, rows_of, Sized}
use Rattle.code_record.specs.contracts.Code.{the_type}
use Rattle.code_record.proofs.Code.TheLaws.{the_laws}

pub sized_of : (c : Code) → Is (row the_type) c (val the_type the_laws c ∷ []) → Sized c
sized_of c owned =
    record {
      room_g = owned.1.1.1.1.1.0.1.0.1;
      room_x = owned.1.1.1.1.1.1.0.1.0.1;
      room_z = owned.1.1.1.1.1.1.1.0.1.0.1;
    }

pub room_of : (c : Code) → Sized c → (family : Family) → length (rows_of family c) ≡ row_room
room_of c sized Generator = sized.room_g
room_of c sized LogicalX = sized.room_x
room_of c sized LogicalZ = sized.room_z
