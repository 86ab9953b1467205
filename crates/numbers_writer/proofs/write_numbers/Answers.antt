-- The call answers as `write_numbers` says: 17 where either line has no room, or the lines.
use mathlib.Core.Path.{refl}
use Rattle.std.proofs.Common.{◌<◌, ◌≤◌, length, arith}
use Rattle.std.proofs.lemmas.Result.{err_from_is_err_and}
use Rattle.sheet.proofs.WrittenText.{answers-short, answers-whole}
use Rattle.numbers_writer.specs.Numbers.{numbers_text, write_numbers}
use Rattle.numbers_writer.proofs.Numbers.{length-numbers_text}
use Rattle.numbers_writer.proofs.write_numbers.Goals as goal

pub returns-in_err-room : goal.returns-in_err-room
unfolding write_numbers
returns-in_err-room c =
    let a = c.args in
    let p = err_from_is_err_and c.from_residual.result c.from_residual.ensures.1 in
    let unfit = rw c.in_err-room.ensures.ok_part at c.room_behind.ensures in
    let short : length a.out.now < length (numbers_text a.first_key.now a.first a.second_key.now a.second) =
    omega (arith, length-numbers_text a.first_key.now a.first a.second_key.now a.second, unfit) in
    let told = answers-short _ a.out.now refl short in
    record {
      value = rw (p.1, p.2, c.in_err-room.ensures.value, c.in_err-room.ensures.ok_part) told.0;
      out_after = told.1;
    }

pub returns-in_err-ok_or : goal.returns-in_err-ok_or
unfolding write_numbers
returns-in_err-ok_or c =
    let a = c.args in
    let p = err_from_is_err_and c.from_residual-in_err-ok_or.result c.from_residual-in_err-ok_or.ensures.1 in
    let first = rw c.in_ok-room.ensures.ok_part at c.room_behind.ensures in
    let unfit = rw c.in_err-ok_or.ensures.ok_part at c.room_behind-2.ensures in
    let short : length a.out.now < length (numbers_text a.first_key.now a.first a.second_key.now a.second) =
    omega (arith, length-numbers_text a.first_key.now a.first a.second_key.now a.second, first, unfit) in
    let told = answers-short _ a.out.now refl short in
    record {
      value = rw (p.1, p.2, c.in_err-ok_or.ensures.value, c.in_err-ok_or.ensures.ok_part) told.0;
      out_after = told.1;
    }

pub number_lines-requires : goal.number_lines-requires
number_lines-requires c =
    let a = c.args in
    let first = rw c.in_ok-room.ensures.ok_part at c.room_behind.ensures in
    let second = rw c.in_ok-ok_or.ensures.ok_part at c.room_behind-2.ensures in
    omega (arith, length-numbers_text a.first_key.now a.first a.second_key.now a.second, first, second)

pub returns : goal.returns
unfolding write_numbers
returns c =
    let a = c.args in
    let first = rw c.in_ok-room.ensures.ok_part at c.room_behind.ensures in
    let second = rw c.in_ok-ok_or.ensures.ok_part at c.room_behind-2.ensures in
    let room : length (numbers_text a.first_key.now a.first a.second_key.now a.second) ≤ length a.out.now =
    omega (arith, length-numbers_text a.first_key.now a.first a.second_key.now a.second, first, second) in
    let told = answers-whole _ a.out.now refl room c.number_lines.ensures.value c.number_lines.ensures.out_after in
    record { value = told.0; out_after = told.1 }
