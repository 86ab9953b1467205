-- The call for one number answers as `write_number` says: 17 where the line has no room, or the line.
use mathlib.Core.Path.{refl}
use Rattle.std.proofs.Common.{arith}
use Rattle.sheet.proofs.WrittenText.{answers-short, answers-whole}
use Rattle.number_writer.specs.Lines.{number_text, write_number}
use Rattle.number_writer.proofs.Numbers.{length-decimal-le, length-number_text}
use Rattle.number_writer.proofs.write_number.Goals as goal

pub overflow_add-digit_count : goal.overflow_add-digit_count
overflow_add-digit_count c = record { fits = omega (arith, length-decimal-le c.args.m) }

pub returns-then-saturating_sub-digit_count : goal.returns-then-saturating_sub-digit_count
unfolding write_number
returns-then-saturating_sub-digit_count c =
    let a = c.args in
    let told = answers-short (number_text a.key.now a.m) a.out.now refl
    (omega (arith, length-number_text a.key.now a.m)) in
    record { value = told.0; out_after = told.1 }

pub number_line-requires : goal.number_line-requires
number_line-requires c = omega (arith, length-number_text c.args.key.now c.args.m)

pub returns : goal.returns
unfolding write_number
returns c =
    let a = c.args in
    let told = answers-whole (number_text a.key.now a.m) a.out.now refl
    (omega (arith, length-number_text a.key.now a.m)) c.number_line.ensures.value c.number_line.ensures.out_after in
    record { value = told.0; out_after = told.1 }
