-- The buffer holds the bytes that were passed.
use Rattle.std.proofs.Common.{◌≡◌, take}
use Rattle.sheet.specs.Text.{laid}
use Rattle.text_writer.proofs.write_text.Given as goal

abbrev pub invariant-loop-place : goal.invariant-loop-place
invariant-loop-place l = l.out ≡ laid (take l.place l.text) l.fn.out
