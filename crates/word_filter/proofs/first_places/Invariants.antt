-- The table of the words from the place on: one place less is one store more.
use Rattle.std.proofs.Common.{◌≡◌, take, drop}
use Rattle.word_filter.specs.Filter.{places_from}
use Rattle.word_filter.proofs.first_places.Given as goal

abbrev pub invariant-loop-place : goal.invariant-loop-place
invariant-loop-place l = l.places ≡ places_from l.place (drop l.place (take 96 l.words))
