-- What syndromes tell of errors. The Paulis with a syndrome of zeros have I, the product of any two of them, and where
-- the rows commute each row; so they have all that the rows generate. The other laws are those of `pauli`.
use Rattle.std.specs.Prelude.{None}
use mathlib.Core.Bool.{true, false, not, xor}
use mathlib.Core.List.{List, [], ◌∷◌, zip_with}
use mathlib.Core.Path.{◌≡◌, refl, ap, ap₂, sym, ◌∙◌}
use Prim.Native.Nat.{ℕ, zero, suc}
use lib.ListN.{length, replicate}
use Rattle.pauli.specs.declared.Pauli.{Pauli}
use Rattle.pauli.specs.Product.{identity, product, commutes, anticommutes}
use Rattle.pauli.specs.Syndrome.{syndrome, add_bits}
use Rattle.pauli.proofs.Product.{product-identity-l, product-identity-r, commutes-decides}
use Rattle.pauli.proofs.Syndrome.{syndrome-product, same-syndrome}
use Rattle.code_record.specs.declared.Code.{Code}
use Rattle.code_record.specs.Record.{generators, generators_at}
use Rattle.code_record.proofs.Limits.{limits}
use Rattle.sheet.proofs.Lengths.{length-generators}
use Rattle.stabilizer.specs.Checks.{generator_fault}
use Rattle.stabilizer.specs.Group.{InGroupUpToPhase}
use Rattle.stabilizer.specs.Statements.{Commuting}
use Rattle.stabilizer.proofs.All.{All, all-every, all-places}
use Rattle.stabilizer.proofs.Faults.{nothing_then}
use Rattle.stabilizer.proofs.Generated.{phase_aside, generated-least}
use Rattle.stabilizer.proofs.Members.{in-group-aside}
use Rattle.stabilizer.proofs.Theorems.{faultless-rows-stabilize}
use Rattle.admission.specs.Admission.{fault_but_distance, code_fault, read_sheet}
use Rattle.admission.specs.Distance.{distance_fault}
use Rattle.admission.proofs.Admitted.{AdmittedAs, admitted-as, admitted-lawful}
use Rattle.admission.proofs.Masks.{syndrome-by-masks}
use Rattle.decoder.specs.Correction.{correction}
use Rattle.decoder.specs.Statements.{SyndromesTellErrors, CorrectionsReturn}
use Rattle.decoder.proofs.Earliest.{correction-is-earliest}

-- ---- zeros

undetected : (rows : List Pauli) (P : Pauli) → All (λ g. commutes g P ≡ true) rows
    → syndrome rows P ≡ replicate (length rows) false
unfolding syndrome anticommutes
undetected [] P all = refl
undetected (g ∷ rows) P all = ap₂ ◌∷◌ (ap not all.0) (undetected rows P all.1)

zeros-add : (r : ℕ) → add_bits (replicate r false) (replicate r false) ≡ replicate r false
unfolding add_bits zip_with xor
zeros-add zero = refl
zeros-add (suc r) = ap (λ bits. false ∷ bits) (zeros-add r)

commutes-with-identity : (g : Pauli) → commutes g identity ≡ true
commutes-with-identity g = (commutes-decides g identity).1 (product-identity-r g ∙ sym (product-identity-l g))

-- ---- the members

members-have-zeros : (rows : List Pauli) (P : Pauli) → Commuting rows → InGroupUpToPhase rows P
    → syndrome rows P ≡ replicate (length rows) false
members-have-zeros rows P commuting member =
    generated-least phase_aside Zeros (undetected rows identity (all-every _ commutes-with-identity rows)) product_zeros
    (λ P Q same zeros. sym (syndrome-by-masks rows P Q same) ∙ zeros) rows rows-zeros P
    ((in-group-aside rows P).0 member)
  where
    Zeros : Pauli → Type 0
    Zeros P = syndrome rows P ≡ replicate (length rows) false

    product_zeros : (P Q : Pauli) → Zeros P → Zeros Q → Zeros (product P Q)
    product_zeros P Q p q = syndrome-product rows P Q ∙ ap₂ add_bits p q ∙ zeros-add (length rows)

    rows-zeros : All Zeros rows
    rows-zeros =
        all-places Zeros identity rows λ j hj.
        undetected rows _ (all-places (λ g. commutes g _ ≡ true) identity rows λ i hi. commuting i j hi hj)

-- ---- an admitted sheet

pub generators-pass : (at : ℕ) (c : Code) → code_fault at c ≡ None
    → generator_fault (generators_at c) (generators c) ≡ None
unfolding code_fault fault_but_distance
generators-pass at c faultless =
    let checks = (nothing_then (fault_but_distance at c) (distance_fault at c) faultless).0 in
    (nothing_then (generator_fault (generators_at c) (generators c)) _ checks).0

of-sheet : (s : List ℕ) (c : Code) → AdmittedAs s c → (P : Pauli) → InGroupUpToPhase (generators c) P
    → syndrome (generators c) P ≡ replicate c.r false
unfolding generators
of-sheet s c a P member =
    let lawful = admitted-lawful s c a in
    let within = limits c lawful.limits in
    let stabilizing =
    faultless-rows-stabilize c.n (generators_at c) (generators c) within.generator_rows.used
    (generators-pass a.claim_at c a.faultless) in
    members-have-zeros (generators c) P stabilizing.commuting member
    ∙ ap (λ r. replicate r false) (length-generators c lawful.sized within)

pub syndromes-tell-errors : SyndromesTellErrors
syndromes-tell-errors = record {
  products = syndrome-product;
  members = members-have-zeros;
  of_sheet = λ s P h. of-sheet s (read_sheet s).code (admitted-as s h) P;
  same = same-syndrome;
}

-- ---- corrections

-- A correction has the syndrome that it was found for.
pub corrections-return : CorrectionsReturn
corrections-return c bits s found =
    ap (correction c) ((correction-is-earliest c bits).found s found).0.matches ∙ found
