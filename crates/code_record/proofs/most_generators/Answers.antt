-- The most generators: one less than the qubits, which is 0 where there are none.
use Rattle.std.proofs.Common.{rules}
use Rattle.code_record.specs.Record.{most_generators}
use Rattle.code_record.proofs.most_generators.Goals as goal

pub returns : goal.returns
unfolding most_generators
returns c = search rules
