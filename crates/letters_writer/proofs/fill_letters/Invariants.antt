-- The buffer holds the letters that were passed.
use Rattle.std.proofs.Common.{◌≡◌}
use Rattle.letters_writer.proofs.Filled.{filled_to}
use Rattle.letters_writer.proofs.fill_letters.Given as goal

abbrev pub invariant-loop-place : goal.invariant-loop-place
invariant-loop-place l = l.out ≡ filled_to l.place l.p l.fn.out
