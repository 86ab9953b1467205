-- The generators are passed from the last on.
use Rattle.letter_words.specs.Words.{with_generators}
use Rattle.letter_words.proofs.Fitting.{Passed}
use Rattle.letter_words.proofs.candidates.Given as goal

abbrev pub invariant-loop-place : goal.invariant-loop-place
invariant-loop-place l = Passed (with_generators 0 l.r l.g) l.syndrome l.place l.x l.y l.z
