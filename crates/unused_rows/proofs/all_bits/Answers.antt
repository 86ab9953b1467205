-- Behind the last row there is no bit; at a turn the row at the place joins those behind it.
use Rattle.std.proofs.Common.{◌≡◌, ◌-◌, suc, arith}
use Rattle.unused_rows.proofs.RowBits.{no-bits-behind, bits-from}
use Rattle.unused_rows.proofs.all_bits.Goals as goal

pub loop-place-init : goal.loop-place-init
loop-place-init c = no-bits-behind c.args.rows 32 (omega arith)

pub loop-place-preserved : goal.loop-place-preserved
loop-place-preserved c =
    let at = c.loop-place in
    let follows : at.place ≡ suc (at.place - 1) = omega arith in
    bits-from c.args.rows (at.place - 1) (omega arith) follows at.invariant
