-- The kind of the line is the family's, or another.
use mathlib.Core.Path.{◌≡◌, ap, sym, ◌∙◌}
use denote.Enum.Bare.{sameb}
use Rattle.line_kinds.specs.contracts.LineKind.{the_type}
use Rattle.line_kinds.proofs.Keys.{row_kind, row-begins}
use Rattle.line_kinds.proofs.begins_row.Goals as goal
use Rattle.line_kinds.proofs.begins_row.Goals.{in-Generator, in-LogicalX, in-LogicalZ}

pub returns : goal.returns
returns c =
    let kind-is : c.match-family.kind ≡ row_kind c.args.family = elim c.match-family.branch [
      | in-Generator w ↦ w.kind-is ∙ ap row_kind (sym w.in-Generator.is)
      | in-LogicalX w ↦ w.kind-is ∙ ap row_kind (sym w.in-LogicalX.is)
      | in-LogicalZ w ↦ w.kind-is ∙ ap row_kind (sym w.in-LogicalZ.is)
    ] in
    c.eq.ensures ∙ ap (sameb the_type c.line_kind.result) kind-is
    ∙ row-begins c.args.s.now c.line_kind.ensures c.args.family
