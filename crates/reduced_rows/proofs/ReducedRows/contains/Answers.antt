-- The rows contain a Pauli where what they leave of it is I, phase aside: what is left is tested, not the Pauli.
use mathlib.Core.Path.{ap, ◌∙◌}
use Rattle.pauli.specs.Product.{identity, same_masks}
use Rattle.stabilizer.specs.Canonical.{reduces_to_identity}
use Rattle.reduced_rows.proofs.ReducedRows.contains.Goals as goal

pub returns : goal.returns
unfolding reduces_to_identity
returns c = c.is_phase.ensures ∙ ap (λ left. same_masks left identity) c.reduce.ensures
