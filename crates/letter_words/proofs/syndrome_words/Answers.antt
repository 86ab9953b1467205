-- Of a record nothing but n, r and its generators is in its words.
use Rattle.code_record.specs.Record.{generators}
use Rattle.letter_words.specs.Words.{word_qubits, syndrome_words}
use Rattle.letter_words.proofs.syndrome_words.Goals as goal

pub returns : goal.returns
unfolding syndrome_words word_qubits generators
returns c = c.words_of.ensures
