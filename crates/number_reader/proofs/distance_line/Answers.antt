-- The kind, and then the number.
use mathlib.Core.Path.{refl, sym}
use native.Mathlib.Omega.{arith}
use borrow.Author.Rules.{rules}
use denote.Enum.Bare.{differs_true, differs_false}
use Rattle.refusals.specs.declared.Refusal.{Refusal}
use Rattle.code_record.specs.Record.{most_distance}
use Rattle.line_kinds.specs.declared.LineKind.{LineKind}
use Rattle.line_kinds.specs.contracts.LineKind.{the_type}
use Rattle.number_reader.proofs.NumberLines.{distance-line-form, number-of-other, number-of-kind}
use Rattle.number_reader.proofs.distance_line.Goals as goal

pub returns-then-ne : goal.returns-then-ne
returns-then-ne c =
    number-of-other LineKind.Distance 1 2 1 most_distance (Refusal.DistanceRange 2) _ (distance-line-form _)
    c.line_kind.ensures
    (differs_true the_type _ _ (sym c.if-ne.ensures))

pub returns : goal.returns
returns c =
    number-of-kind LineKind.Distance 1 2 1 most_distance (Refusal.DistanceRange 2) _ (distance-line-form _)
    c.line_kind.ensures
    (omega arith)
    (differs_false the_type (search rules) _ _ (sym c.if-ne.ensures))
    refl
    c.number_line.ensures
