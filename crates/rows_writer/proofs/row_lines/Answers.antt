-- Each turn lays the line of the next row behind those that are there.
use mathlib.Core.List.{flat_map}
use Rattle.std.specs.Prelude.{Ok}
use Rattle.std.proofs.Common.{◌≡◌, ℕ, ◌+◌, ◌≤◌, List, length, get_or, take, ap, arith}
use lib.Seq.{take_all}
use Rattle.pauli.specs.declared.Pauli.{Pauli}
use Rattle.pauli.specs.Product.{identity}
use Rattle.sheet.specs.Text.{laid}
use Rattle.sheet.proofs.Laid.{back, lent, length-lent, Holds, holds-nothing, holds_as, holds_more}
use Rattle.sheet.proofs.WrittenText.{count-is, content-is}
use Rattle.row_writer.specs.Lines.{row_line_text, write_row}
use Rattle.row_writer.proofs.Lines.{length-row_line_text, row-has-room}
use Rattle.rows_writer.specs.Rows.{rows_text}
use Rattle.rows_writer.proofs.Rows.{first_more, first-room}
use Rattle.rows_writer.proofs.row_lines.Goals as goal

pub loop-row-init : goal.loop-row-init
unfolding rows_text flat_map
loop-row-init c = holds-nothing c.args.out.now

-- ---- a turn

-- The next line has room.
room : (c : goal.After-write_row-arg-1) → c.loop-row.end + (c.args.n + 4) ≤ length c.loop-row.out
room c =
    omega (arith, first-room c.args.key c.args.n c.args.rows.now c.loop-row.row-index c.loop-row-test.true)

pub slice_bounds-write_row-count : goal.slice_bounds-write_row-count
slice_bounds-write_row-count c = omega (arith, room c)

pub slice_bounds-write_row-start : goal.slice_bounds-write_row-start
slice_bounds-write_row-start c = omega (arith, room c)

module _ (c : goal.After-bytes_written-end) where
  abbrev row : Pauli
  row = get_or c.args.rows.now c.loop-row.row-index identity

  abbrev text : List ℕ
  text = row_line_text c.args.key c.args.n row

  abbrev part : List ℕ
  part = lent c.loop-row.end c.loop-row.out

  fits : length text ≤ length part
  fits =
      omega (
        arith,
        first-room c.args.key c.args.n c.args.rows.now c.loop-row.row-index c.loop-row-test.true,
        length-row_line_text c.args.key c.args.n row,
        length-lent c.loop-row.end c.loop-row.out,
      )

  whole : write_row c.args.key c.args.n row part ≡ record { answer = Ok (length text); buffer = laid text part }
  whole = row-has-room c.args.key c.args.n row part c.requires.le_n c.requires.n_le_most_qubits fits

  count : c.bytes_written-end.result ≡ length text
  count = count-is text part whole c.write_row.ensures.value c.bytes_written-end.ensures

  held : Holds (rows_text c.args.key c.args.n (take (c.loop-row.row-index + 1) c.args.rows.now)) c.args.out.now
      (back c.loop-row.end c.loop-row.out c.write_row.new.out)
      (c.loop-row.end + c.bytes_written-end.result)
  held =
      holds_as
      (holds_more c.loop-row.invariant text count (content-is text part whole c.write_row.ensures.out_after)
      c.write_row.auto.out)
      (first_more c.args.key c.args.n c.args.rows.now c.loop-row.row-index c.loop-row-test.true)

pub overflow_add-end : goal.overflow_add-end
overflow_add-end c =
    record { fits = omega (arith, count c, fits c, length-lent c.loop-row.end c.loop-row.out, c.well_formed) }

pub loop-row-preserved : goal.loop-row-preserved
loop-row-preserved c = held c

-- ---- behind the last
pub returns : goal.returns
returns c =
    let a = c.args in
    let all = take_all c.loop-row.row-index a.rows.now c.loop-row-test.false in
    let whole = holds_as c.loop-row.invariant (ap (rows_text a.key a.n) all) in
    record { value = whole.count; out_after = whole.content }
