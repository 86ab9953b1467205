-- Bytes that have no key are of no kind; else the byte of the key is one of the seven, or none of them.
use mathlib.Core.Path.{ap, sym, ◌∙◌}
use Prim.Native.Nat.{◌≤◌}
use native.Mathlib.Omega.{arith}
use lib.ListN.{length, get_or-eq_default}
use Rattle.letters.specs.Lists.{first_of, read_byte}
use Rattle.line_kinds.specs.LineKinds.{kind_of}
use Rattle.line_kinds.proofs.Keys.{no-kind, key-read, no-key}
use Rattle.line_kinds.proofs.line_kind.Goals as goal

pub returns-in_default : goal.returns-in_default
returns-in_default c =
    let s = c.args.s.now in
    let short : length s ≤ 1 = omega arith in
    no-key s (λ e. omega (arith, get_or-eq_default s 0 short))

pub returns-in_default-2 : goal.returns-in_default-2
returns-in_default-2 c = no-key c.args.s.now (λ e. omega arith)

pub returns-in-110 : goal.returns-in-110
unfolding kind_of read_byte first_of
returns-in-110 c = ap kind_of (sym c.in-110.is) ∙ key-read c.args.s.now (omega arith)

pub returns-in-100 : goal.returns-in-100
unfolding kind_of read_byte first_of
returns-in-100 c = ap kind_of (sym c.in-100.is) ∙ key-read c.args.s.now (omega arith)

pub returns-in-103 : goal.returns-in-103
unfolding kind_of read_byte first_of
returns-in-103 c = ap kind_of (sym c.in-103.is) ∙ key-read c.args.s.now (omega arith)

pub returns-in-120 : goal.returns-in-120
unfolding kind_of read_byte first_of
returns-in-120 c = ap kind_of (sym c.in-120.is) ∙ key-read c.args.s.now (omega arith)

pub returns-in-122 : goal.returns-in-122
unfolding kind_of read_byte first_of
returns-in-122 c = ap kind_of (sym c.in-122.is) ∙ key-read c.args.s.now (omega arith)

pub returns-in-119 : goal.returns-in-119
unfolding kind_of read_byte first_of
returns-in-119 c = ap kind_of (sym c.in-119.is) ∙ key-read c.args.s.now (omega arith)

pub returns-in-115 : goal.returns-in-115
unfolding kind_of read_byte first_of
returns-in-115 c = ap kind_of (sym c.in-115.is) ∙ key-read c.args.s.now (omega arith)

pub returns-in_default-key : goal.returns-in_default-key
returns-in_default-key c =
    sym
    (no-kind _ (λ e. omega arith) (λ e. omega arith) (λ e. omega arith) (λ e. omega arith) (λ e. omega arith)
    (λ e. omega arith) (λ e. omega arith))
    ∙ key-read c.args.s.now (omega arith)
