-- The empty record: an array of one value is that value, written out as often as the array has places.
use mathlib.Core.Path.{ap}
use lib.ListN.{replicate}
use Rattle.code_record.specs.Record.{row_room, empty_code}
use Rattle.code_record.proofs.Code.empty.Goals as goal

pub returns : goal.returns
unfolding empty_code
returns c =
    ap (λ one. record {
      n = 0;
      r = 0;
      d = 0;
      g = replicate row_room one;
      x = replicate row_room one;
      z = replicate row_room one;
      w = one;
    })
    c.identity-one.ensures
