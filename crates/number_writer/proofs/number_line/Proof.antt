-- The slice holds the key, then the digits behind it, then the line feed.
use mathlib.Core.List.{List, [], ◌∷◌, ◌++◌}
use mathlib.Core.Path.{refl, ap, ◌∙◌}
use Prim.Native.Nat.{ℕ, ◌+◌, ◌<◌, ◌≤◌}
use native.Mathlib.Omega.{arith}
use lib.ListN.{length, set, length-append}
use Rattle.sheet.specs.Text.{decimal, laid}
use Rattle.sheet.proofs.Laid.{back, Holds, end-within, room-behind, holds_more, holds-byte}
use Rattle.sheet.proofs.WrittenText.{written-whole, count-is, content-is}
use Rattle.number_writer.proofs.Numbers.{number-text, length-number_text}
use borrow.Author.Rules.{rules}
use Rattle.number_writer.proofs.number_line.Statement.{statement}
use Rattle.number_writer.proofs.number_line.Tie as tie

module _ (c : tie.Start) where
  abbrev key : List ℕ
  key = c.args.key.now

  abbrev digits : List ℕ
  digits = decimal c.args.m

  abbrev buffer : List ℕ
  buffer = c.args.out.now

  room : length key + length digits + 1 ≤ length buffer
  room = omega (arith, length-number_text key c.args.m, c.requires)

-- ---- behind the key
module _ (c : tie.After-bytes_written-end) where
  abbrev start : tie.Start
  start = c.before.before.before.before.before.before.before

  abbrev keyed-out : List ℕ
  keyed-out = c.write_text.new.out

  keyed : Holds (key start) (buffer start) keyed-out c.bytes_written-end.result
  keyed =
      let call = c.write_text in
      let whole = written-whole (key start) (buffer start) refl (omega (arith, room start)) in
      record {
        content = content-is (key start) (buffer start) whole call.ensures.1;
        count = count-is (key start) (buffer start) whole call.ensures.0 c.bytes_written-end.ensures;
        size = call.auto.out;
      }

-- ---- behind the digits
abbrev fronted : tie.After-digits-end → tie.After-bytes_written-end
fronted c = c.before.before

abbrev end : tie.After-digits-end → ℕ
end c = (fronted c).bytes_written-end.result + c.digits-end.result

abbrev out : tie.After-digits-end → List ℕ
out c = back (fronted c).bytes_written-end.result (keyed-out (fronted c)) c.digits-end.new.out

module _ (c : tie.After-digits-end) where
  abbrev s : tie.Start
  s = start (fronted c)

  numbered : Holds (key s ++ digits s) (buffer s) (out c) (end c)
  numbered =
      holds_more (keyed (fronted c)) (digits s) c.digits-end.ensures.0 c.digits-end.ensures.1 c.digits-end.auto.out

  inside : end c < length (buffer s)
  inside = omega (arith, room s, (keyed (fronted c)).count, c.digits-end.ensures.0)

  ended : Holds ((key s ++ digits s) ++ 10 ∷ []) (buffer s) (set (out c) (end c) 10) (end c + 1)
  ended = holds-byte numbered 10 (omega (arith, inside, numbered.size))

-- ---- the needs
sub-digits : tie.Need-slice_bounds-digits-count
sub-digits c = end-within (keyed c) (omega (arith, room (start c)))

part-digits-start : tie.Need-slice_bounds-digits-start
part-digits-start c = sub-digits c

digits-requires : tie.Need-digits-end-requires
digits-requires c κs =
    let p = c.before in
    let s = start p in
    room-behind (keyed p) (digits s) (omega (arith, room s, length-append (key s) (digits s)))

add-end : tie.Need-overflow_add-end
add-end c = let d = c.before.before in record { fits = omega (arith, inside d, (s d).well_formed) }

slice-write-out : tie.Need-bounds-out-end
slice-write-out c = let d = c.before.before in omega (arith, inside d, (numbered d).size)

add-result : tie.Need-overflow_add-result
add-result c = let d = c.before.before in record { fits = omega (arith, inside d, (s d).well_formed) }

same_length : tie.Need-shape_of-out
same_length c = (ended c.before.before).size

returns : tie.Need-returns
returns c =
    let d = c.before.before in
    let text = number-text (key (s d)) (s d).args.m in
    ((ended d).count ∙ ap length text, (ended d).content ∙ ap (λ t. laid t (buffer (s d))) text)

pub number_line_spec : {M : Type 1} → statement M
number_line_spec =
    tie.close
    (tie.spec (λ c κs. search rules) (λ c κs. search rules) sub-digits part-digits-start (λ c. search rules)
    digits-requires add-end slice-write-out add-result same_length returns)
