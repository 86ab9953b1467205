-- The iterator has the characters that are left, and those behind them are read.
use Rattle.syndrome_reader.proofs.ReadMask.{Behind}
use Rattle.syndrome_reader.proofs.read_syndrome.Given as goal

abbrev pub invariant-loop-character : goal.invariant-loop-character
invariant-loop-character l = Behind l.characters l.character-iterator.iter.rest.now l.mask
