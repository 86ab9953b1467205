-- Whether all rows of three families are +I: where they have no bit, they are.
use Rattle.std.proofs.Common.{sym, ◌∙◌, eq-eqb}
use Rattle.unused_rows.proofs.RowBits.{or-none, no_bits}
use Rattle.unused_rows.proofs.InTurn.{all_hold}
use Rattle.unused_rows.proofs.are_unused.Goals as goal

pub returns-then-all_bits-eq0 : goal.returns-then-all_bits-eq0
returns-then-all_bits-eq0 c =
    let gx = or-none _ _ c.if-all_bits-eq0.true in
    let each = or-none _ _ gx.0 in
    eq-eqb _ 0 c.if-all_bits-eq0.true
    ∙ sym (all_hold (no_bits _ (sym c.all_bits.ensures ∙ each.0)) (no_bits _ (sym c.all_bits-2.ensures ∙ each.1))
    (no_bits _ (sym c.all_bits-3.ensures ∙ gx.1)))
