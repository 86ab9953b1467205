-- As many bytes are shown as before the dots were left out.
use Rattle.std.proofs.Common.{◌≡◌, ◌≤◌, length}
use Rattle.test_cases.specs.Cases.{shown}
use Rattle.test_cases.proofs.output.shown_len.Given as goal

abbrev pub invariant-loop-shown : goal.invariant-loop-shown
invariant-loop-shown l = (shown l.shown ≡ shown l.fn.buffer) × (length l.shown ≤ length l.fn.buffer)

abbrev pub decreases-loop-shown : goal.decreases-loop-shown
decreases-loop-shown l = length l.shown
