-- What a row is to the rows, from what they leave of it.
use Rattle.std.specs.Prelude.{cond}
use Rattle.pauli.specs.declared.Pauli.{Pauli}
use Rattle.pauli.specs.Product.{identity, same_masks, same_pauli}
use Rattle.stabilizer.specs.Checks.{minus_identity}
use Rattle.reduced_rows.specs.declared.Kind.{Kind}

-- A phase of i or -i, which rows that commute never leave, counts as +.
unfoldable pub kind_of : Pauli → Kind
kind_of Q =
    cond (same_masks Q identity) (cond (same_pauli minus_identity Q) Kind.MinusIdentity Kind.PlusIdentity)
    Kind.Independent
