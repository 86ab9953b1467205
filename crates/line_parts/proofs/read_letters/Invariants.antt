-- The letters that were read stand behind what the iterator has left.
use Rattle.line_parts.proofs.Values.{Behind}
use Rattle.line_parts.proofs.read_letters.Given as goal

abbrev pub invariant-loop-c : goal.invariant-loop-c
invariant-loop-c l = Behind l.word l.c-iterator.iter.rest.now l.a l.b
