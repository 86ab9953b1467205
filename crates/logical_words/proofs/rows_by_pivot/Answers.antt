-- The column has a place, and the rows are those that are counted.
use Rattle.std.proofs.Common.{length, get_or, ap, arith}
use Rattle.pauli.specs.Product.{identity}
use Rattle.reduced_rows.proofs.ArrayLength.{room_of}
use Rattle.reduced_rows.specs.Rows.{rows_in}
use Rattle.logical_words.proofs.RowSums.{counted, pivot-room, none-added, one-more-added, all-added}
use Rattle.logical_words.proofs.rows_by_pivot.Goals as goal

pub loop-row-init : goal.loop-row-init
loop-row-init c = none-added (rows_in c.args.rows)

pub offset_bounds-sums-column : goal.offset_bounds-sums-column
offset_bounds-sums-column c = omega (arith, pivot-room _ c.pivot-column.ensures)

pub bounds-sums-column : goal.bounds-sums-column
bounds-sums-column c = pivot-room _ c.pivot-column.ensures

pub bounds-sums-column-in-loop-row : goal.bounds-sums-column-in-loop-row
bounds-sums-column-in-loop-row c = pivot-room _ c.pivot-column.ensures

pub loop-row-preserved : goal.loop-row-preserved
loop-row-preserved c =
    let whole = counted c.args.rows c.min.result (room_of c.args.rows c.well_formed.0) c.min.ensures in
    one-more-added c.loop-row.invariant (omega (arith, c.loop-row-test.true, ap length whole))
    (ap (λ rows. get_or rows c.loop-row.row-index identity) whole) c.pivot-column.ensures c.mask_word.ensures

pub returns : goal.returns
returns c =
    let whole = counted c.args.rows c.min.result (room_of c.args.rows c.well_formed.0) c.min.ensures in
    all-added c.loop-row.invariant (omega (arith, c.loop-row-test.false, ap length whole))
