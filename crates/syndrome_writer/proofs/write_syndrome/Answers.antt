-- The answer of the call that counts its characters, without the count.
use Rattle.std.proofs.Common.{arith}
use Rattle.syndrome_writer.proofs.SyndromeText.{counted_given, counted_refused}
use Rattle.syndrome_writer.proofs.write_syndrome.Goals as goal

pub returns-in_err-write_characters-clause-value : goal.returns-in_err-write_characters-clause-value
returns-in_err-write_characters-clause-value c =
    let refused = counted_refused _ c.in_err-write_characters.ensures.value in grind (arith, refused)

pub returns-clause-value : goal.returns-clause-value
returns-clause-value c = counted_given _ c.in_ok-write_characters.ensures.value
