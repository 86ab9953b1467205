-- A shift, where there is a bit; beyond 32 there is none.
use mathlib.Core.Path.{ap, sym}
use Prim.Native.Nat.{ℕ, ◌%◌}
use Rattle.pauli.proofs.Masks.{no-high-bits}
use borrow.Author.Rules.{rules}
use Rattle.columns.proofs.bit.Goals as goal

pub returns : goal.returns
returns c =
    ap (λ (m : ℕ). m % 2)
    (sym (no-high-bits 32 c.args.m c.args.place (search rules) (search rules)))
