-- Behind each call the slice holds the lines of the rows up to there, and `end` is their length: every call lays the
-- lines of one more key behind what is there.
use mathlib.Core.List.{List, ◌++◌}
use mathlib.Core.Path.{◌≡◌, ap, ◌∙◌}
use Prim.Native.Nat.{ℕ, ◌+◌, ◌≤◌}
use native.Mathlib.Omega.{arith}
use lib.ListN.{length, take}
use borrow.Author.Rules.{rules}
use Rattle.code_record.specs.declared.Code.{Code}
use Rattle.code_record.specs.Record.{most_qubits, logical_count, generators, logical_xs, logical_zs}
use Rattle.sheet.proofs.Laid.{front_fits, lent, back, Holds, end-within, room-behind, holds_as, holds_more}
use Rattle.sheet.proofs.WrittenText.{count-is, content-is}
use Rattle.rows_writer.specs.Rows.{rows_text}
use Rattle.rows_writer.proofs.Rows.{rows-has-room}
use Rattle.families_writer.specs.Families.{families_text}
use Rattle.families_writer.proofs.Families.{to_g, to_x, to_z, families-parts}
use Rattle.families_writer.proofs.family_lines.Statement.{statement}
use Rattle.families_writer.proofs.family_lines.Tie as tie

-- ---- what is known before the first line
module _ (c : tie.After-pair_count-k) where
  abbrev code : Code
  code = c.args.code

  abbrev buffer : List ℕ
  buffer = c.args.out.now

  abbrev k : ℕ
  k = c.pair_count-k.result

  qubits : (2 ≤ code.n) × (code.n ≤ most_qubits)
  qubits = (c.requires.0, c.requires.1.0)

  -- The lines up to each key have room.
  fits_z : length (to_z code) ≤ length buffer
  fits_z = omega (arith, ap length (families-parts code), c.requires.1.1)

  fits_x : length (to_x code) ≤ length buffer
  fits_x = front_fits (to_x code) _ fits_z

  fits_g : length (to_g code) ≤ length buffer
  fits_g = front_fits (to_g code) _ fits_x

  abbrev lines_x : List ℕ
  lines_x = rows_text 120 code.n (take k code.x)

  abbrev lines_z : List ℕ
  lines_z = rows_text 122 code.n (take k code.z)

  more_x : to_g code ++ lines_x ≡ to_x code
  unfolding logical_xs logical_count
  more_x = ap (λ (count : ℕ). to_g code ++ rows_text 120 code.n (take count code.x)) c.pair_count-k.ensures

  more_z : to_x code ++ lines_z ≡ to_z code
  unfolding logical_zs logical_count
  more_z = ap (λ (count : ℕ). to_x code ++ rows_text 122 code.n (take count code.z)) c.pair_count-k.ensures

-- ---- behind each call
module _ (c : tie.After-bytes_written-end) where
  abbrev start : tie.After-pair_count-k
  start = c.before.before.before.before.before.before

  abbrev out_g : List ℕ
  out_g = c.write_rows.new.out

  abbrev end_g : ℕ
  end_g = c.bytes_written-end.result

  behind_g : Holds (to_g (code start)) (buffer start) out_g end_g
  unfolding generators
  behind_g =
      let call = c.write_rows in
      let whole = rows-has-room 103 (code start).n (generators (code start)) (buffer start) (qubits start).0
      (qubits start).1 (fits_g start) in
      record {
        content = content-is (to_g (code start)) (buffer start) whole call.ensures.1;
        count = count-is (to_g (code start)) (buffer start) whole call.ensures.0 c.bytes_written-end.ensures;
        size = call.auto.out;
      }

  inside_g : end_g ≤ length out_g
  inside_g = end-within behind_g (fits_g start)

module _ (c : tie.After-bytes_written-end-2) where
  abbrev at_g : tie.After-bytes_written-end
  at_g = c.before.before.before.before.before.before

  abbrev s_x : tie.After-pair_count-k
  s_x = start at_g

  abbrev out_x : List ℕ
  out_x = back (end_g at_g) (out_g at_g) c.write_rows-2.new.out

  abbrev end_x : ℕ
  end_x = end_g at_g + c.bytes_written-end-2.result

  behind_x : Holds (to_x (code s_x)) (buffer s_x) out_x end_x
  behind_x =
      let call = c.write_rows-2 in
      let part = lent (end_g at_g) (out_g at_g) in
      let whole = rows-has-room 120 (code s_x).n (take (k s_x) (code s_x).x) part (qubits s_x).0 (qubits s_x).1
      (room-behind (behind_g at_g) (lines_x s_x) (omega (arith, fits_x s_x, ap length (more_x s_x)))) in
      holds_as
      (holds_more (behind_g at_g) (lines_x s_x)
      (count-is (lines_x s_x) part whole call.ensures.0 c.bytes_written-end-2.ensures)
      (content-is (lines_x s_x) part whole call.ensures.1) call.auto.out)
      (more_x s_x)

  inside_x : end_x ≤ length out_x
  inside_x = end-within behind_x (fits_x s_x)

module _ (c : tie.After-bytes_written-end-3) where
  abbrev at_x : tie.After-bytes_written-end-2
  at_x = c.before.before.before.before.before.before

  abbrev s : tie.After-pair_count-k
  s = s_x at_x

  behind_z : Holds (families_text (code s)) (buffer s)
      (back (end_x at_x) (out_x at_x) c.write_rows-3.new.out)
      (end_x at_x + c.bytes_written-end-3.result)
  behind_z =
      let call = c.write_rows-3 in
      let part = lent (end_x at_x) (out_x at_x) in
      let whole = rows-has-room 122 (code s).n (take (k s) (code s).z) part (qubits s).0 (qubits s).1
      (room-behind (behind_x at_x) (lines_z s) (omega (arith, fits_z s, ap length (more_z s)))) in
      holds_as
      (holds_more (behind_x at_x) (lines_z s)
      (count-is (lines_z s) part whole call.ensures.0 c.bytes_written-end-3.ensures)
      (content-is (lines_z s) part whole call.ensures.1) call.auto.out)
      (more_z s ∙ families-parts (code s))

-- ---- the needs
add-end : tie.Need-overflow_add-end
add-end c = record { fits = omega (arith, (behind_x c).count, fits_x (s_x c), (s_x c).well_formed.0) }

add-end-2 : tie.Need-overflow_add-end-2
add-end-2 c =
    record { fits = omega (arith, (behind_z c).count, (s c).requires.1.1, (s c).well_formed.0) }

returns : tie.Need-returns
returns c = ((behind_z c).count, (behind_z c).content)

pub family_lines_spec : {M : Type 1} → statement M
family_lines_spec =
    tie.close
    (tie.spec (λ c κs. search rules) (λ c κs. search rules) (λ c κs. search rules) (λ c. inside_g c.before)
    (λ c. inside_g c.before) (λ c. search rules) (λ c κs. search rules) (λ c κs. search rules) add-end
    (λ c. inside_x c.before) (λ c. inside_x c.before) (λ c. search rules) (λ c κs. search rules)
    (λ c κs. search rules) add-end-2 (λ c. (behind_z c).size) returns)
