-- Behind each call the slice holds the lines up to there, and `end` is their length: every call lays one more part
-- behind what is there.
use mathlib.Core.List.{List}
use mathlib.Core.Path.{ap}
use Prim.Native.Nat.{ℕ, ◌+◌, ◌≤◌}
use native.Mathlib.Omega.{arith}
use lib.ListN.{length}
use borrow.Author.Rules.{rules}
use Rattle.refusals.specs.declared.ErrorPair.{ErrorPair}
use Rattle.refusals.specs.declared.Refusal.{Refusal}
use Rattle.sheet.proofs.Laid.{front_fits, lent, back, Holds, end-within, room-behind, holds_as, holds_more}
use Rattle.sheet.proofs.WrittenText.{count-is, content-is}
use Rattle.row_writer.proofs.Lines.{letters-has-room}
use Rattle.numbers_writer.proofs.Numbers.{numbers-has-room}
use Rattle.reporting.specs.Report.{refusal_text}
use Rattle.refusal_writer.proofs.RefusalText.{numbers, line_e, line_f, to_e, to_f, refutation-parts}
use Rattle.refusal_writer.proofs.refutation_lines.Statement.{statement}
use Rattle.refusal_writer.proofs.refutation_lines.Tie as tie

-- ---- each part has room
module _ (c : tie.Start) where
  abbrev at : ℕ
  at = c.args.line

  abbrev pair : ErrorPair
  pair = c.args.pair

  abbrev buffer : List ℕ
  buffer = c.args.out.now

  fits_f : length (to_f at pair) ≤ length buffer
  fits_f = omega (arith, ap length (refutation-parts at pair), c.requires.1.1)

  fits_e : length (to_e at pair) ≤ length buffer
  fits_e = front_fits (to_e at pair) (line_f at pair) fits_f

  fits_at : length (numbers 14 at) ≤ length buffer
  fits_at = front_fits (numbers 14 at) (line_e at pair) fits_e

-- ---- behind each call
module _ (c : tie.After-bytes_written-end) where
  abbrev start : tie.Start
  start = c.before.before.before.before.before.before.before.before.before.before

  abbrev out_at : List ℕ
  out_at = c.write_numbers.new.out

  abbrev end_at : ℕ
  end_at = c.bytes_written-end.result

  behind_at : Holds (numbers 14 (at start)) (buffer start) out_at end_at
  behind_at =
      let call = c.write_numbers in
      let whole = numbers-has-room _ 14 _ (at start) (buffer start) (fits_at start) in
      record {
        content = content-is (numbers 14 (at start)) (buffer start) whole call.ensures.1;
        count = count-is (numbers 14 (at start)) (buffer start) whole call.ensures.0 c.bytes_written-end.ensures;
        size = call.auto.out;
      }

  inside_at : end_at ≤ length out_at
  inside_at = end-within behind_at (fits_at start)

module _ (c : tie.After-bytes_written-end-2) where
  abbrev front : tie.After-bytes_written-end
  front = c.before.before.before.before.before.before

  abbrev s_e : tie.Start
  s_e = start front

  abbrev out_e : List ℕ
  out_e = back (end_at front) (out_at front) c.write_letters.new.out

  abbrev end_e : ℕ
  end_e = end_at front + c.bytes_written-end-2.result

  behind_e : Holds (to_e (at s_e) (pair s_e)) (buffer s_e) out_e end_e
  behind_e =
      let call = c.write_letters in
      let part = lent (end_at front) (out_at front) in
      let text = line_e (at s_e) (pair s_e) in
      let whole = letters-has-room 101 (pair s_e).n (pair s_e).e part s_e.requires.0 s_e.requires.1.0
      (room-behind (behind_at front) text (fits_e s_e)) in
      holds_more (behind_at front) text (count-is text part whole call.ensures.0 c.bytes_written-end-2.ensures)
      (content-is text part whole call.ensures.1) call.auto.out

  inside_e : end_e ≤ length out_e
  inside_e = end-within behind_e (fits_e s_e)

module _ (c : tie.After-bytes_written-end-3) where
  abbrev at_e : tie.After-bytes_written-end-2
  at_e = c.before.before.before.before.before.before

  abbrev s : tie.Start
  s = s_e at_e

  behind_f : Holds (refusal_text (Refusal.DistanceRefuted (at s) (pair s))) (buffer s)
      (back (end_e at_e) (out_e at_e) c.write_letters-2.new.out)
      (end_e at_e + c.bytes_written-end-3.result)
  behind_f =
      let call = c.write_letters-2 in
      let part = lent (end_e at_e) (out_e at_e) in
      let text = line_f (at s) (pair s) in
      let whole = letters-has-room 102 (pair s).n (pair s).f part s.requires.0 s.requires.1.0
      (room-behind (behind_e at_e) text (fits_f s)) in
      holds_as
      (holds_more (behind_e at_e) text (count-is text part whole call.ensures.0 c.bytes_written-end-3.ensures)
      (content-is text part whole call.ensures.1) call.auto.out)
      (refutation-parts (at s) (pair s))

-- ---- the needs
add-end : tie.Need-overflow_add-end
add-end c = record { fits = omega (arith, (behind_e c).count, fits_e (s_e c), (s_e c).well_formed.0) }

add-end-2 : tie.Need-overflow_add-end-2
add-end-2 c = record { fits = omega (arith, (behind_f c).count, (s c).requires.1.1, (s c).well_formed.0) }

returns : tie.Need-returns
returns c = ((behind_f c).count, (behind_f c).content)

pub refutation_lines_spec : {M : Type 1} → statement M
refutation_lines_spec =
    tie.close
    (tie.spec (λ c κs. search rules) (λ c κs. search rules) (λ c. inside_at c.before) (λ c. inside_at c.before)
    (λ c. search rules) (λ c κs. search rules) (λ c κs. search rules) add-end (λ c. inside_e c.before)
    (λ c. inside_e c.before) (λ c. search rules) (λ c κs. search rules) (λ c κs. search rules) add-end-2
    (λ c. (behind_f c).size) returns)
