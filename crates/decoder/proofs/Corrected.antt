-- An error of weight at most t is corrected. Its own letters are a candidate, so there is a correction, no heavier.
-- The two together weigh less than d, and their product commutes with every generator; with no distance fault it is
-- in the group.
use Rattle.std.specs.Prelude.{Option, Some, None}
use mathlib.Core.Bool.{Bool, true}
use mathlib.Core.List.{List}
use mathlib.Core.Logic.{◌⊎◌, inl, inr}
use mathlib.Core.Path.{◌≡◌, refl, ap}
use Prim.Native.Nat.{ℕ, ◌≤◌}
use native.Mathlib.Omega.{arith}
use Rattle.pauli.specs.declared.Pauli.{Pauli}
use Rattle.letters.specs.declared.Letter.{Letter}
use Rattle.pauli.specs.Letters.{of_letters, letters_of}
use Rattle.pauli.specs.Order.{weight_of, Earlier}
use Rattle.pauli.specs.Product.{product, weight}
use Rattle.pauli.specs.Syndrome.{syndrome}
use Rattle.pauli.proofs.Letters.{length-letters_of, weight-of-letters, weight-counts-letters}
use Rattle.pauli.proofs.Product.{weight-product-le}
use Rattle.pauli.proofs.Syndrome.{same-syndrome}
use Rattle.code_record.specs.declared.Code.{Code}
use Rattle.code_record.specs.Record.{generators, radius, on_qubits, within_limits, Sized}
use Rattle.code_record.proofs.Limits.{on-qubits, limits}
use Rattle.stabilizer.specs.Group.{InGroupUpToPhase}
use Rattle.stabilizer.proofs.Columns.{product-on-qubits}
use Rattle.admission.specs.Distance.{distance_fault}
use Rattle.admission.proofs.BelowDistance.{light-in-group}
use Rattle.admission.proofs.Masks.{syndrome-by-masks, string-on-qubits, letters-keep-masks}
use Rattle.decoder.specs.Correction.{correction}
use Rattle.decoder.specs.Statements.{Candidate, IsCorrected}
use Rattle.decoder.proofs.Bits.{syndromes-have-r-bits}
use Rattle.decoder.proofs.Decode.{decode-written, decode-short}
use Rattle.decoder.proofs.Earliest.{correction-is-earliest}

earlier-is-no-heavier : (s t : List Letter) → (t ≡ s) ⊎ Earlier s t → weight_of s ≤ weight_of t
unfolding Earlier
earlier-is-no-heavier s t (inl e) = omega (arith, ap weight_of e)
earlier-is-no-heavier s t (inr (inl h)) = omega arith
earlier-is-no-heavier s t (inr (inr h)) = omega arith

module _
    (at : ℕ) (c : Code) (sized : Sized c) (within : within_limits c ≡ true) (faultless : distance_fault at c ≡ None)
    (E : Pauli) (on : on_qubits c.n E ≡ true) (light : weight E ≤ radius c) where
  abbrev bits : List Bool
  bits = syndrome (generators c) E

  abbrev own : List Letter
  own = letters_of c.n E

  own-weight : weight E ≡ weight_of own
  own-weight = let q = on-qubits c.n E on in weight-of-letters c.n E q.0 q.1

  own-candidate : Candidate c bits own
  own-candidate = record {
    letters = length-letters_of c.n E;
    light = omega (arith, own-weight);
    matches = syndrome-by-masks (generators c) (of_letters own) E (letters-keep-masks c.n E on);
  }

  module _ (s : List Letter) (found : correction c bits ≡ Some s) where
    candidate : Candidate c bits s
    candidate = ((correction-is-earliest c bits).found s found).0

    no-heavier : weight_of s ≤ weight E
    no-heavier =
        let earliest = ((correction-is-earliest c bits).found s found).1 own own-candidate in
        omega (arith, earlier-is-no-heavier s own earliest, own-weight)

    product-in-group : InGroupUpToPhase (generators c) (product (of_letters s) E)
    unfolding radius
    product-in-group =
        light-in-group at c faultless (product (of_letters s) E)
        (product-on-qubits c.n (of_letters s) E (string-on-qubits c.n s candidate.letters) on)
        ((same-syndrome (generators c) (of_letters s) E).0 candidate.matches)
        (omega (
          arith,
          weight-product-le (of_letters s) E,
          weight-counts-letters s,
          no-heavier,
          (limits c within).distance,
        ))

    is-corrected : IsCorrected c E
    is-corrected =
        let count = syndromes-have-r-bits.of_record c E sized within in
        record {
          letters = s;
          found = found;
          light = no-heavier;
          in_group = product-in-group;
          written = decode-written c bits within count s found;
          short = decode-short c bits within count;
        }

  pub error-is-corrected : IsCorrected c E
  error-is-corrected = go (correction c bits) refl
    where
      go : (o : Option (List Letter)) → correction c bits ≡ o → IsCorrected c E
      go None e = absurd ((correction-is-earliest c bits).missing e own own-candidate)
      go (Some s) e = is-corrected s e
