-- From the last qubit on no letter fits.
use Rattle.std.proofs.Common.{◌≤◌, min}
use Rattle.letter_words.proofs.LoneLetters.{NoneFrom}
use Rattle.letter_words.proofs.lone_letter.Given as goal

abbrev pub invariant-loop-qubit : goal.invariant-loop-qubit
invariant-loop-qubit l = (l.qubit ≤ min l.n 32) × NoneFrom l.fitting (min l.n 32) l.qubit
