-- A number below 10 has one digit, another one more than its tenth: the function calls itself with that.
use mathlib.Core.Path.{ap, sym, ◌∙◌}
use Rattle.std.proofs.Common.{ℕ, ◌+◌, ◌/◌, arith}
use Rattle.sheet.proofs.Lengths.{length-decimal-one}
use Rattle.number_writer.proofs.Numbers.{length-decimal-le, length-decimal-snoc}
use Rattle.number_writer.proofs.+digit_count.Goals as goal

pub returns-then-m-lt10 : goal.returns-then-m-lt10
returns-then-m-lt10 t c = sym (length-decimal-one c.args.m c.if-m-lt10.true)

pub overflow_add-result : goal.overflow_add-result
overflow_add-result t c =
    record { fits = omega (arith, c.digit_count.ensures, length-decimal-le (c.args.m / 10), c.well_formed) }

pub returns : goal.returns
returns t c =
    ap (λ (k : ℕ). k + 1) c.digit_count.ensures ∙ sym (length-decimal-snoc c.args.m c.if-m-lt10.false)
