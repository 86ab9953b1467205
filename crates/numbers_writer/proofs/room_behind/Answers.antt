-- The room behind the key, then behind the digits and the line feed.
use Rattle.std.proofs.Common.{arith}
use Rattle.std.proofs.lemmas.Grind.{common_steps}
use Rattle.number_writer.proofs.Numbers.{length-decimal-le, length-number_text}
use Rattle.numbers_writer.proofs.room_behind.Goals as goal

pub returns-in_err-checked_sub : goal.returns-in_err-checked_sub
returns-in_err-checked_sub c =
    rw c.from_residual.ensures
    (λ fits. c.in_err-checked_sub.ensures (omega (arith, length-number_text c.args.key.now c.args.m, fits)))

pub overflow_add-digit_count : goal.overflow_add-digit_count
overflow_add-digit_count c = record { fits = omega (arith, length-decimal-le c.args.m) }

pub returns : goal.returns
returns c =
    let long = length-number_text c.args.key.now c.args.m in
    grind (arith, common_steps)
