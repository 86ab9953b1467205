-- Behind each call the slice holds the lines up to there, and `end` is their length.
use mathlib.Core.List.{List, ◌++◌}
use mathlib.Core.Path.{ap}
use Prim.Native.Nat.{ℕ, ◌+◌, ◌≤◌}
use native.Mathlib.Omega.{arith}
use lib.ListN.{length}
use borrow.Author.Rules.{rules}
use Rattle.sheet.proofs.Laid.{front_fits, lent, back, Holds, end-within, room-behind, holds_as, holds_more}
use Rattle.sheet.proofs.WrittenText.{count-is, content-is}
use Rattle.numbers_writer.proofs.Numbers.{numbers-has-room}
use Rattle.header_writer.specs.Header.{header_text}
use Rattle.header_writer.proofs.Header.{lines_nk, lines_dt, header-parts}
use Rattle.header_writer.proofs.header_lines.Statement.{statement}
use Rattle.header_writer.proofs.header_lines.Tie as tie

module _ (c : tie.Start) where
  abbrev n : ℕ
  n = c.args.n

  abbrev k : ℕ
  k = c.args.k

  abbrev d : ℕ
  d = c.args.d

  abbrev t : ℕ
  t = c.args.t

  abbrev buffer : List ℕ
  buffer = c.args.out.now

  abbrev front : List ℕ
  front = lines_nk n k d t

  abbrev rest : List ℕ
  rest = lines_dt n k d t

  fits : length (front ++ rest) ≤ length buffer
  fits = omega (arith, ap length (header-parts n k d t), c.requires)

  front-has-room : length front ≤ length buffer
  front-has-room = front_fits front rest fits

-- ---- behind n and k
module _ (c : tie.After-bytes_written-end) where
  abbrev start : tie.Start
  start = c.before.before.before.before.before.before.before.before.before.before

  abbrev out : List ℕ
  out = c.write_numbers.new.out

  behind-k : Holds (front start) (buffer start) out c.bytes_written-end.result
  behind-k =
      let call = c.write_numbers in
      let whole = numbers-has-room _ (n start) _ (k start) (buffer start) (front-has-room start) in
      record {
        content = content-is (front start) (buffer start) whole call.ensures.1;
        count = count-is (front start) (buffer start) whole call.ensures.0 c.bytes_written-end.ensures;
        size = call.auto.out;
      }

  inside : c.bytes_written-end.result ≤ length out
  inside = end-within behind-k (front-has-room start)

-- ---- behind d and t
module _ (c : tie.After-bytes_written-end-2) where
  abbrev fronted : tie.After-bytes_written-end
  fronted = c.before.before.before.before.before.before.before.before.before

  abbrev s : tie.Start
  s = start fronted

  abbrev end : ℕ
  end = fronted.bytes_written-end.result

  behind-t : Holds (header_text (n s) (k s) (d s) (t s)) (buffer s)
      (back end (out fronted) c.write_numbers-2.new.out)
      (end + c.bytes_written-end-2.result)
  behind-t =
      let call = c.write_numbers-2 in
      let part = lent end (out fronted) in
      let whole = numbers-has-room _ (d s) _ (t s) part (room-behind (behind-k fronted) (rest s) (fits s)) in
      holds_as
      (holds_more (behind-k fronted) (rest s)
      (count-is (rest s) part whole call.ensures.0 c.bytes_written-end-2.ensures)
      (content-is (rest s) part whole call.ensures.1) call.auto.out)
      (header-parts (n s) (k s) (d s) (t s))

-- ---- the needs
add-end : tie.Need-overflow_add-end
add-end c = record { fits = omega (arith, (behind-t c).count, (s c).requires, (s c).well_formed.0) }

returns : tie.Need-returns
returns c = ((behind-t c).count, (behind-t c).content)

pub header_lines_spec : {M : Type 1} → statement M
header_lines_spec =
    tie.close
    (tie.spec (λ c κs. search rules) (λ c κs. search rules) (λ c. inside c.before.before.before.before)
    (λ c. inside c.before.before.before.before) (λ c. search rules) (λ c κs. search rules) (λ c κs. search rules)
    add-end (λ c. (behind-t c).size) returns)
