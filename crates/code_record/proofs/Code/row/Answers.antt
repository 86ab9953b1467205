-- The row at a place: the family decides the array, and behind its end there is no row.
use Rattle.std.proofs.Common.{sym, ◌∙◌, arith}
use Rattle.std.proofs.Math.ListN.{get_or-eq_default}
use Rattle.pauli.specs.Product.{identity}
use Rattle.code_record.specs.Record.{rows_of}
use Rattle.code_record.proofs.ArrayLengths.{sized_of, room_of}
use Rattle.code_record.proofs.Code.row.Goals as goal

pub returns-then-place-ge-ROW_ROOM : goal.returns-then-place-ge-ROW_ROOM
returns-then-place-ge-ROW_ROOM c =
    let a = c.args in
    c.identity.ensures
    ∙ sym
    (get_or-eq_default (rows_of a.family a.self) identity
    (omega (arith, room_of a.self (sized_of a.self c.well_formed.0) a.family)))
