-- The call answers as the one that it makes for the case.
use mathlib.Core.Path.{ap, ◌∙◌}
use Rattle.letters.specs.Lists.{bytes}
use Rattle.correction_writer.proofs.Lines.{found-written, none_written}
use Rattle.correction_writer.proofs.write_correction.Goals as goal

pub returns-in-Some-clause-value : goal.returns-in-Some-clause-value
returns-in-Some-clause-value c =
    c.write_letters.ensures.value
    ∙ ap (λ after. after.answer) (found-written c.args.n c.args.out.now c.in-Some.p c.in-Some.is)

pub returns-in-Some-clause-out_after : goal.returns-in-Some-clause-out_after
returns-in-Some-clause-out_after c =
    c.write_letters.ensures.out_after
    ∙ ap (λ after. after.buffer) (found-written c.args.n c.args.out.now c.in-Some.p c.in-Some.is)

pub returns-in-None-clause-value : goal.returns-in-None-clause-value
unfolding bytes
returns-in-None-clause-value c =
    c.write_text.ensures.value ∙ ap (λ after. after.answer) (none_written c.args.n c.args.out.now c.in-None.is)

pub returns-in-None-clause-out_after : goal.returns-in-None-clause-out_after
unfolding bytes
returns-in-None-clause-out_after c =
    c.write_text.ensures.out_after ∙ ap (λ after. after.buffer) (none_written c.args.n c.args.out.now c.in-None.is)
