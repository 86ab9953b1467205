-- The digits of a number below 10 are one byte; those of another are its tenth's, which the function writes by calling
-- itself, and one byte behind them.
use mathlib.Core.List.{List}
use mathlib.Core.Path.{◌≡◌, ap, sym, subst, ◌∙◌}
use Rattle.std.proofs.Common.{ℕ, ◌+◌, ◌/◌, ◌%◌, ◌<◌, ◌≤◌, arith, length}
use lib.ListN.{set}
use Rattle.sheet.specs.Text.{decimal, laid}
use Rattle.sheet.proofs.Lengths.{decimal-one, decimal-snoc}
use Rattle.sheet.proofs.Laid.{sets-laid, Holds, holds-byte}
use Rattle.number_writer.proofs.Numbers.{length-decimal-snoc}
use Rattle.number_writer.proofs.+digits.Goals as goal

-- ---- one digit
one : (m : ℕ) → m < 10 → 1 ≡ length (decimal m)
one m h = sym (ap length (decimal-one m h))

one-laid : (m : ℕ) → m < 10 → (out : List ℕ) → length (decimal m) ≤ length out
    → set out 0 (48 + m) ≡ laid (decimal m) out
one-laid m h out room =
    sets-laid _ out (omega (arith, one m h, room)) ∙ ap (λ text. laid text out) (sym (decimal-one m h))

pub bounds-out-0 : goal.bounds-out-0
bounds-out-0 t c = omega (arith, one c.args.m c.if-m-lt10.true, c.requires)

pub returns-then-m-lt10-clause-value : goal.returns-then-m-lt10-clause-value
returns-then-m-lt10-clause-value t c = one c.args.m c.if-m-lt10.true

pub returns-then-m-lt10-clause-out_after : goal.returns-then-m-lt10-clause-out_after
returns-then-m-lt10-clause-out_after t c = one-laid c.args.m c.if-m-lt10.true c.args.out.now c.requires

-- ---- more digits

-- The digits of the tenth stand at the front, and then one more.
more : (m : ℕ) → 10 ≤ m → (out after : List ℕ) (end : ℕ) → length (decimal m) ≤ length out
    → end ≡ length (decimal (m / 10)) → after ≡ laid (decimal (m / 10)) out → length after ≡ length out
    → Holds (decimal m) out (set after end (48 + m % 10)) (end + 1)
more m h out after end room count content size =
    let tenth : Holds (decimal (m / 10)) out after end = record { content = content; count = count; size = size } in
    let inside : end < length after = omega (arith, length-decimal-snoc m h, room, count, size) in
    subst (λ (text : List ℕ). Holds text out (set after end (48 + m % 10)) (end + 1)) (sym (decimal-snoc m h))
    (holds-byte tenth (48 + m % 10) inside)

pub digits-end-requires : goal.digits-end-requires
digits-end-requires t c =
    (omega (arith, c.if-m-lt10.false), omega (arith, length-decimal-snoc c.args.m c.if-m-lt10.false, c.requires))

pub bounds-out-end : goal.bounds-out-end
bounds-out-end t c =
    omega (
      arith,
      length-decimal-snoc c.args.m c.if-m-lt10.false,
      c.requires,
      c.digits-end.ensures.value,
      c.digits-end.auto.out,
    )

pub overflow_add-result : goal.overflow_add-result
overflow_add-result t c =
    record {
      fits =
          omega (
            arith,
            length-decimal-snoc c.args.m c.if-m-lt10.false,
            c.requires,
            c.digits-end.ensures.value,
            c.well_formed,
          );
    }

pub returns-clause-value : goal.returns-clause-value
returns-clause-value t c =
    (more c.args.m c.if-m-lt10.false c.args.out.now c.digits-end.new.out c.digits-end.result c.requires
    c.digits-end.ensures.value c.digits-end.ensures.out_after c.digits-end.auto.out).count

pub returns-clause-out_after : goal.returns-clause-out_after
returns-clause-out_after t c =
    (more c.args.m c.if-m-lt10.false c.args.out.now c.digits-end.new.out c.digits-end.result c.requires
    c.digits-end.ensures.value c.digits-end.ensures.out_after c.digits-end.auto.out).content
