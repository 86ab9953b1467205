-- The rows before the place are +I. What is asked of the first m rows is asked of those from the place on.
use Rattle.std.proofs.Common.{◌≡◌, ◌-◌, take, drop}
use Rattle.letters.specs.Lists.{all_of}
use Rattle.code_record.specs.Record.{is_row}
use Rattle.record_limits.proofs.RowLimits.{idle}
use Rattle.record_limits.proofs.rows_pass.Given as goal

abbrev pub invariant-loop-place : goal.invariant-loop-place
invariant-loop-place l =
    (l.rows ≡ idle l.place l.initial.rows)
    × (all_of (is_row l.n) (take l.m l.initial.rows)
    ≡ all_of (is_row l.n) (take (l.m - l.place) (drop l.place l.initial.rows)))
