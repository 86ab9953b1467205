-- What the check finds from a row on is what it finds from the beginning; and of the rows before it, those that were
-- tried commute with it.
use mathlib.Core.List.{[]}
use mathlib.Core.Path.{◌≡◌}
use lib.ListN.{take}
use Rattle.pauli.specs.Product.{anticommutes}
use Rattle.code_record.specs.Record.{first_generator_at}
use Rattle.stabilizer.specs.Checks.{first_fault, clash}
use Rattle.stabilizer.proofs.Walk.{Left}
use Rattle.commutation.proofs.AnyRow.{Tried}
use Rattle.commutation.proofs.generators_commute.Given as goal

abbrev pub invariant-loop-place : goal.invariant-loop-place
invariant-loop-place l =
    Left clash l.g l.r l.place first_generator_at ≡ first_fault clash [] first_generator_at (take l.r l.g)

abbrev pub invariant-loop-earlier : goal.invariant-loop-earlier
invariant-loop-earlier l = Tried (anticommutes l.p) l.g l.place l.earlier
