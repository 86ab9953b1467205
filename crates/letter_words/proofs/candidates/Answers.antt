-- Before the first generator is passed every qubit is a candidate, or none is.
use Rattle.std.proofs.Common.{◌≡◌, length, length-take, rules, arith}
use Rattle.code_record.specs.Record.{row_room, generators}
use Rattle.letter_words.specs.Words.{with_generators}
use Rattle.letter_words.proofs.Fitting.{at-the-end, one_more, all-passed}
use Rattle.letter_words.proofs.candidates.Goals as goal

pub loop-place-init : goal.loop-place-init
unfolding generators
loop-place-init c =
    let a = c.args in
    let room : length a.g ≡ row_room = search rules in
    at-the-end (with_generators 0 a.r a.g) a.syndrome _ _ room
    (omega (arith, c.min-count.ensures, length-take a.r a.g)) c.all_or_none-all.ensures

pub loop-place-preserved : goal.loop-place-preserved
loop-place-preserved c =
    rw c.all_or_none-turned.ensures (one_more c.loop-place.invariant c.loop-place-test.true)

pub returns : goal.returns
returns c = all-passed c.loop-place.invariant (omega (arith, c.loop-place-test.false))
