-- The correction is the earliest: the search for it goes through the strings in their order, and its test compares
-- syndromes bit by bit.
use mathlib.Core.Bool.{Bool, true}
use mathlib.Core.List.{List}
use mathlib.Core.Logic.{◌↔◌}
use mathlib.Core.Path.{◌≡◌}
use Prim.Native.Nat.{◌≤◌}
use lib.ListN.{length}
use Rattle.std.specs.Cmp.{booleans_Decides}
use Rattle.std.specs.Cmp.Lexicographic.{pointwise_decides}
use Rattle.letters.specs.declared.Letter.{Letter}
use Rattle.pauli.specs.Letters.{of_letters}
use Rattle.pauli.specs.Order.{weight_of, strings_up_to}
use Rattle.pauli.specs.Syndrome.{syndrome}
use Rattle.pauli.proofs.EarlierOrder.{strings_up_to-listed}
use Rattle.code_record.specs.Record.{generators, radius}
use Rattle.admission.proofs.Earliest.{search_finds-first}
use Rattle.decoder.specs.Correction.{has_syndrome, correction}
use Rattle.decoder.specs.Statements.{Candidate, CorrectionIsEarliest}
use Rattle.decoder.specs.Syndrome.{same_bits}

pub same-bits-is-right : (xs ys : List Bool) → (same_bits xs ys ≡ true) ↔ (xs ≡ ys)
same-bits-is-right = pointwise_decides booleans_Decides

pub correction-is-earliest : CorrectionIsEarliest
unfolding correction has_syndrome
correction-is-earliest c bits =
    search_finds-first (has_syndrome c bits) (strings_up_to c.n (radius c)) (strings_up_to-listed c.n (radius c)) right
  where
    right : (s : List Letter) → Candidate c bits s
        ↔ (((length s ≡ c.n) × (weight_of s ≤ radius c)) × (has_syndrome c bits s ≡ true))
    right s =
        let test = same-bits-is-right (syndrome (generators c) (of_letters s)) bits in (
          λ h. ((h.letters, h.light), test.1 h.matches),
          λ ((letters, light), passes). record { letters = letters; light = light; matches = test.0 passes },
        )
