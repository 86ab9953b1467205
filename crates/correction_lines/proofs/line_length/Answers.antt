-- The length of each case's line.
use Rattle.pauli.specs.declared.Pauli.{Pauli}
use Rattle.std.specs.Prelude.{Option}
use mathlib.Core.Path.{ap, sym, ◌∙◌}
use lib.ListN.{length}
use Rattle.correction_writer.specs.Lines.{correction_text}
use Rattle.correction_writer.proofs.Lines.{length_none, length_found}
use Rattle.correction_lines.proofs.line_length.Goals as goal

pub returns-in-Some : goal.returns-in-Some
returns-in-Some c =
    let n = c.args.n in
    sym (length_found n c.in-Some.field-0)
    ∙ ap (λ (k : Option Pauli). length (correction_text n k)) (sym c.in-Some.is)

pub returns-in-None : goal.returns-in-None
returns-in-None c =
    let n = c.args.n in
    sym (length_none n) ∙ ap (λ (k : Option Pauli). length (correction_text n k)) (sym c.in-None.is)
