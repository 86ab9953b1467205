-- What the checks answer is the fault by which the reading goes.
use Rattle.std.proofs.Common.{ap, ◌∙◌}
use Rattle.admission.specs.Admission.{admitted, reading_of}
use Rattle.code_checks.proofs.ReadChecks.{read-is-checked}
use Rattle.sheet_reading.proofs.judged.Goals as goal

pub returns-in-Ok : goal.returns-in-Ok
unfolding reading_of admitted
returns-in-Ok c =
    let a = c.args in ap (reading_of a.code) (c.in-Ok.ensures ∙ read-is-checked a.at a.code c.requires)

pub returns-in-Err : goal.returns-in-Err
unfolding reading_of
returns-in-Err c =
    let a = c.args in
    c.refused.ensures ∙ ap (reading_of a.code) (c.in-Err.ensures ∙ read-is-checked a.at a.code c.requires)
