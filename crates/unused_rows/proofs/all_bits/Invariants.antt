-- The bits of all rows, from the last row on.
use Rattle.std.proofs.Common.{◌≡◌, drop}
use Rattle.unused_rows.specs.Unused.{all_bits}
use Rattle.unused_rows.proofs.all_bits.Given as goal

abbrev pub invariant-loop-place : goal.invariant-loop-place
invariant-loop-place l = l.bits ≡ all_bits (drop l.place l.rows)
