-- Behind each call the slice holds the lines up to there, and `end` is their length.
use mathlib.Core.List.{List, ◌++◌}
use mathlib.Core.Path.{ap}
use Prim.Native.Nat.{ℕ, ◌+◌, ◌≤◌}
use native.Mathlib.Omega.{arith}
use lib.ListN.{length}
use borrow.Author.Rules.{rules}
use Rattle.sheet.proofs.Laid.{front_fits, lent, back, Holds, end-within, room-behind, holds_as, holds_more}
use Rattle.sheet.proofs.WrittenText.{count-is, content-is}
use Rattle.number_writer.specs.Lines.{number_text}
use Rattle.number_writer.proofs.Numbers.{number-has-room}
use Rattle.numbers_writer.specs.Numbers.{numbers_text}
use Rattle.numbers_writer.proofs.Numbers.{numbers-text}
use Rattle.numbers_writer.proofs.number_lines.Statement.{statement}
use Rattle.numbers_writer.proofs.number_lines.Tie as tie

module _ (c : tie.Start) where
  abbrev buffer : List ℕ
  buffer = c.args.out.now

  abbrev key : List ℕ
  key = c.args.first_key.now

  abbrev key' : List ℕ
  key' = c.args.second_key.now

  abbrev line : List ℕ
  line = number_text key c.args.first

  abbrev line' : List ℕ
  line' = number_text key' c.args.second

  abbrev text : List ℕ
  text = numbers_text key c.args.first key' c.args.second

  fits : length (line ++ line') ≤ length buffer
  fits = omega (arith, ap length (numbers-text key c.args.first key' c.args.second), c.requires)

  fits-first : length line ≤ length buffer
  fits-first = front_fits line line' fits

-- ---- behind the first line
module _ (c : tie.After-bytes_written-end) where
  abbrev start : tie.Start
  start = c.before.before.before.before.before.before.before.before

  abbrev out : List ℕ
  out = c.write_number.new.out

  fronted : Holds (line start) (buffer start) out c.bytes_written-end.result
  fronted =
      let call = c.write_number in
      let whole = number-has-room (key start) start.args.first (buffer start) (fits-first start) in
      record {
        content = content-is (line start) (buffer start) whole call.ensures.1;
        count = count-is (line start) (buffer start) whole call.ensures.0 c.bytes_written-end.ensures;
        size = call.auto.out;
      }

  inside : c.bytes_written-end.result ≤ length out
  inside = end-within fronted (fits-first start)

-- ---- behind the second
module _ (c : tie.After-bytes_written-end-2) where
  abbrev front : tie.After-bytes_written-end
  front = c.before.before.before.before.before

  abbrev s : tie.Start
  s = start front

  abbrev end : ℕ
  end = front.bytes_written-end.result

  behind-second : Holds (text s) (buffer s)
      (back end (out front) c.write_number-2.new.out)
      (end + c.bytes_written-end-2.result)
  behind-second =
      let call = c.write_number-2 in
      let part = lent end (out front) in
      let whole = number-has-room (key' s) s.args.second part (room-behind (fronted front) (line' s) (fits s)) in
      holds_as
      (holds_more (fronted front) (line' s) (count-is (line' s) part whole call.ensures.0 c.bytes_written-end-2.ensures)
      (content-is (line' s) part whole call.ensures.1) call.auto.out)
      (numbers-text (key s) s.args.first (key' s) s.args.second)

-- ---- the needs
add-end : tie.Need-overflow_add-end
add-end c = record { fits = omega (arith, (behind-second c).count, (s c).requires, (s c).well_formed.0) }

returns : tie.Need-returns
returns c = ((behind-second c).count, (behind-second c).content)

pub number_lines_spec : {M : Type 1} → statement M
number_lines_spec =
    tie.close
    (tie.spec (λ c κs. search rules) (λ c κs. search rules) inside inside (λ c. search rules) (λ c κs. search rules)
    (λ c κs. search rules) add-end (λ c. (behind-second c).size) returns)
