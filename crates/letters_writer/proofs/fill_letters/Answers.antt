-- Each turn stores the next letter behind those that were passed.
use Rattle.std.proofs.Common.{ap, ◌∙◌, set, ℕ, List}
use Rattle.letters.specs.Letters.{letter_byte}
use Rattle.letters_writer.proofs.Filled.{filled_to, filled-nothing, filled_more, filled-whole}
use Rattle.letters_writer.proofs.fill_letters.Goals as goal

pub loop-place-init : goal.loop-place-init
loop-place-init c = filled-nothing c.args.p c.args.out.now

pub loop-place-preserved : goal.loop-place-preserved
loop-place-preserved c =
    let a = c.args in
    let l = c.loop-place in
    ap (λ (bytes : List ℕ). set bytes l.place c.byte.result) l.invariant
    ∙ ap (λ (byte : ℕ). set (filled_to l.place a.p a.out.now) l.place byte)
    (c.byte.ensures ∙ ap letter_byte c.letter_on.ensures)
    ∙ filled_more a.p a.out.now l.place c.loop-place-test.true

pub returns : goal.returns
returns c =
    c.loop-place.invariant ∙ filled-whole c.args.p c.args.out.now c.loop-place.place c.loop-place-test.false
