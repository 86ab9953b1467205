-- What is asked of the first r rows is asked of those from the place on.
use Rattle.std.proofs.Common.{◌≡◌, ◌-◌, take, drop}
use Rattle.letters.specs.Lists.{all_of}
use Rattle.code_record.specs.Record.{is_row}
use Rattle.record_limits.proofs.generators_within.Given as goal

abbrev pub invariant-loop-place : goal.invariant-loop-place
invariant-loop-place l =
    all_of (is_row l.n) (take l.r l.g) ≡ all_of (is_row l.n) (take (l.r - l.place) (drop l.place l.g))
