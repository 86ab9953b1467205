-- Behind each call the slice holds the lines up to there, and `end` is their length.
use mathlib.Core.List.{List, ◌++◌}
use mathlib.Core.Path.{◌≡◌, ap, ap₂}
use Prim.Native.Nat.{ℕ, ◌+◌, ◌≤◌}
use native.Mathlib.Omega.{arith}
use lib.ListN.{length, take}
use Rattle.code_record.specs.declared.Code.{Code}
use Rattle.code_record.specs.Record.{logical_count}
use Rattle.sheet.proofs.Laid.{front_fits, lent, back, Holds, end-within, room-behind, holds_as, holds_more}
use Rattle.sheet.proofs.WrittenText.{count-is, content-is}
use Rattle.rows_writer.proofs.Rows.{rows-has-room}
use Rattle.header_writer.specs.Header.{header_text}
use Rattle.header_writer.proofs.Header.{header-has-room}
use Rattle.reduced_rows.specs.declared.ReducedRows.{ReducedRows}
use Rattle.account_writer.specs.Account.{code_by}
use Rattle.account_writer.proofs.Account.{header, row_lines, code-parts}
use borrow.Author.Rules.{rules}
use Rattle.account_writer.proofs.code_lines.Statement.{statement}
use Rattle.account_writer.proofs.code_lines.Tie as tie

module _ (c : tie.Start) where
  abbrev code : Code
  code = c.args.code

  abbrev reduced : ReducedRows
  reduced = c.args.reduced

  abbrev buffer : List ℕ
  buffer = c.args.out.now

  fits : length (header code reduced ++ row_lines code reduced) ≤ length buffer
  fits = omega (arith, ap length (code-parts code reduced), c.requires.1.1)

  fits-header : length (header code reduced) ≤ length buffer
  fits-header = front_fits (header code reduced) _ fits

-- ---- behind the numbers
module _ (c : tie.After-bytes_written-end) where
  abbrev start : tie.Start
  start = c.before.before.before.before.before.before.before.before.before

  abbrev out : List ℕ
  out = c.write_header.new.out

  abbrev k : ℕ
  k = c.pair_count-k.result

  abbrev t : ℕ
  t = c.radius.result

  abbrev given : List ℕ
  given = header_text (code start).n k (code start).d t

  same-header : given ≡ header (code start) (reduced start)
  unfolding logical_count
  same-header =
      ap₂ (λ (k t : ℕ). header_text (code start).n k (code start).d t)
      c.pair_count-k.ensures
      c.radius.ensures

  behind-header : Holds (header (code start) (reduced start)) (buffer start) out c.bytes_written-end.result
  behind-header =
      let call = c.write_header in
      let whole = header-has-room (code start).n k (code start).d t (buffer start)
      (omega (arith, ap length same-header, fits-header start)) in
      holds_as
      (record {
        content = content-is given (buffer start) whole call.ensures.1;
        count = count-is given (buffer start) whole call.ensures.0 c.bytes_written-end.ensures;
        size = call.auto.out;
      })
      same-header

  inside : c.bytes_written-end.result ≤ length out
  inside = end-within behind-header (fits-header start)

-- ---- behind the rows
module _ (c : tie.After-bytes_written-end-2) where
  abbrev first : tie.After-bytes_written-end
  first = c.before.before.before.before.before

  abbrev s : tie.Start
  s = start first

  abbrev end : ℕ
  end = first.bytes_written-end.result

  behind-rows : Holds (code_by (code s) (reduced s)) (buffer s)
      (back end (out first) c.write_rows.new.out)
      (end + c.bytes_written-end-2.result)
  behind-rows =
      let call = c.write_rows in
      let part = lent end (out first) in
      let lines = row_lines (code s) (reduced s) in
      let whole = rows-has-room 104 (code s).n (take (reduced s).count (reduced s).rows) part s.requires.0
      s.requires.1.0 (room-behind (behind-header first) lines (fits s)) in
      holds_as
      (holds_more (behind-header first) lines (count-is lines part whole call.ensures.0 c.bytes_written-end-2.ensures)
      (content-is lines part whole call.ensures.1) call.auto.out)
      (code-parts (code s) (reduced s))

-- ---- the needs
add-end : tie.Need-overflow_add-end
add-end c = record { fits = omega (arith, (behind-rows c).count, (s c).requires.1.1, (s c).well_formed.1.1.0) }

returns : tie.Need-returns
returns c = ((behind-rows c).count, (behind-rows c).content)

pub code_lines_spec : {M : Type 1} → statement M
code_lines_spec =
    tie.close
    (tie.spec (λ c κs. search rules) (λ c κs. search rules) (λ c κs. search rules) (λ c κs. search rules) inside
    inside (λ c. search rules) (λ c κs. search rules) (λ c κs. search rules) add-end (λ c. (behind-rows c).size)
    returns)
