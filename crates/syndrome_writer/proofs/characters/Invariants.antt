-- The buffer holds the characters of the generators that were passed.
use Rattle.std.proofs.Common.{◌≡◌}
use lib.ListN.{take}
use Rattle.sheet.specs.Text.{laid}
use Rattle.syndrome_writer.proofs.SyndromeText.{characters_of}
use Rattle.syndrome_writer.proofs.characters.Given as goal

abbrev pub invariant-loop-place : goal.invariant-loop-place
invariant-loop-place l = l.out ≡ laid (take l.place (characters_of l.r l.g l.p)) l.fn.out
