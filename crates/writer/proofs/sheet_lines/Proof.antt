-- Behind each call the slice holds the sheet up to there, and `end` is its length: every call lays one more part behind
-- what is there.
use mathlib.Core.List.{List}
use mathlib.Core.Path.{ap}
use Prim.Native.Nat.{ℕ, ◌+◌, ◌≤◌}
use native.Mathlib.Omega.{arith}
use lib.ListN.{length}
use borrow.Author.Rules.{rules}
use Rattle.code_record.specs.declared.Code.{Code}
use Rattle.code_record.specs.Record.{most_qubits}
use Rattle.code_record.proofs.Limits.{limits}
use Rattle.sheet.specs.Writer.{sheet_text}
use Rattle.sheet.proofs.Laid.{front_fits, lent, back, Holds, end-within, room-behind, holds_as, holds_more}
use Rattle.sheet.proofs.WrittenText.{count-is, content-is}
use Rattle.row_writer.specs.Lines.{letters_line_text}
use Rattle.row_writer.proofs.Lines.{letters-has-room}
use Rattle.numbers_writer.proofs.Numbers.{numbers-has-room}
use Rattle.families_writer.specs.Families.{families_text}
use Rattle.families_writer.proofs.Families.{families-has-room}
use Rattle.writer.proofs.Parts.{numbers, to_rows, to_w, sheet-parts}
use Rattle.writer.proofs.sheet_lines.Statement.{statement}
use Rattle.writer.proofs.sheet_lines.Tie as tie

-- ---- each part has room
module _ (c : tie.Start) where
  abbrev code : Code
  code = c.args.code

  abbrev buffer : List ℕ
  buffer = c.args.out.now

  qubits : (2 ≤ code.n) × (code.n ≤ most_qubits)
  qubits = (limits code c.requires.0).qubits

  abbrev rows : List ℕ
  rows = families_text code

  abbrev claim : List ℕ
  claim = letters_line_text 119 code.n code.w

  fits_w : length (to_w code) ≤ length buffer
  fits_w = omega (arith, ap length (sheet-parts code), c.requires.1)

  fits_rows : length (to_rows code) ≤ length buffer
  fits_rows = front_fits (to_rows code) claim fits_w

  fits_numbers : length (numbers code) ≤ length buffer
  fits_numbers = front_fits (numbers code) rows fits_rows

-- ---- behind each call
module _ (c : tie.After-bytes_written-end) where
  abbrev start : tie.Start
  start = c.before.before.before.before.before.before.before.before.before.before

  abbrev out_n : List ℕ
  out_n = c.write_numbers.new.out

  abbrev end_n : ℕ
  end_n = c.bytes_written-end.result

  behind_numbers : Holds (numbers (code start)) (buffer start) out_n end_n
  behind_numbers =
      let call = c.write_numbers in
      let whole = numbers-has-room _ (code start).n _ (code start).d (buffer start) (fits_numbers start) in
      record {
        content = content-is (numbers (code start)) (buffer start) whole call.ensures.1;
        count = count-is (numbers (code start)) (buffer start) whole call.ensures.0 c.bytes_written-end.ensures;
        size = call.auto.out;
      }

  inside_n : end_n ≤ length out_n
  inside_n = end-within behind_numbers (fits_numbers start)

module _ (c : tie.After-bytes_written-end-2) where
  abbrev at_n : tie.After-bytes_written-end
  at_n = c.before.before.before.before.before

  abbrev s_r : tie.Start
  s_r = start at_n

  abbrev out_r : List ℕ
  out_r = back (end_n at_n) (out_n at_n) c.write_families.new.out

  abbrev end_r : ℕ
  end_r = end_n at_n + c.bytes_written-end-2.result

  behind_rows : Holds (to_rows (code s_r)) (buffer s_r) out_r end_r
  behind_rows =
      let call = c.write_families in
      let part = lent (end_n at_n) (out_n at_n) in
      let whole = families-has-room (code s_r) part (qubits s_r).0 (qubits s_r).1
      (room-behind (behind_numbers at_n) (rows s_r) (fits_rows s_r)) in
      holds_more (behind_numbers at_n) (rows s_r)
      (count-is (rows s_r) part whole call.ensures.0 c.bytes_written-end-2.ensures)
      (content-is (rows s_r) part whole call.ensures.1) call.auto.out

  inside_r : end_r ≤ length out_r
  inside_r = end-within behind_rows (fits_rows s_r)

module _ (c : tie.After-bytes_written-end-3) where
  abbrev at_r : tie.After-bytes_written-end-2
  at_r = c.before.before.before.before.before.before

  abbrev s : tie.Start
  s = s_r at_r

  behind_w : Holds (sheet_text (code s)) (buffer s)
      (back (end_r at_r) (out_r at_r) c.write_letters.new.out)
      (end_r at_r + c.bytes_written-end-3.result)
  behind_w =
      let call = c.write_letters in
      let part = lent (end_r at_r) (out_r at_r) in
      let whole = letters-has-room 119 (code s).n (code s).w part (qubits s).0 (qubits s).1
      (room-behind (behind_rows at_r) (claim s) (fits_w s)) in
      holds_as
      (holds_more (behind_rows at_r) (claim s)
      (count-is (claim s) part whole call.ensures.0 c.bytes_written-end-3.ensures)
      (content-is (claim s) part whole call.ensures.1) call.auto.out)
      (sheet-parts (code s))

-- ---- the needs
add-end : tie.Need-overflow_add-end
add-end c = record { fits = omega (arith, (behind_rows c).count, fits_rows (s_r c), (s_r c).well_formed.0) }

add-end-2 : tie.Need-overflow_add-end-2
add-end-2 c = record { fits = omega (arith, (behind_w c).count, (s c).requires.1, (s c).well_formed.0) }

returns : tie.Need-returns
returns c = ((behind_w c).count, (behind_w c).content)

pub sheet_lines_spec : {M : Type 1} → statement M
sheet_lines_spec =
    tie.close
    (tie.spec (λ c κs. search rules) (λ c κs. search rules) inside_n inside_n (λ c. search rules)
    (λ c κs. search rules) (λ c κs. search rules) add-end (λ c. inside_r c.before) (λ c. inside_r c.before)
    (λ c. search rules) (λ c κs. search rules) (λ c κs. search rules) add-end-2 (λ c. (behind_w c).size) returns)
