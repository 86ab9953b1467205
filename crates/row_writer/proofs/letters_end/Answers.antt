-- The letters fill the bytes that are lent, and the line feed comes behind them.
use Rattle.row_writer.proofs.Lines.{letters-ended}
use Rattle.row_writer.proofs.letters_end.Goals as goal

pub returns : goal.returns
returns c = letters-ended c.args.n c.args.row c.args.out.now _ c.requires c.fill_letters.ensures
