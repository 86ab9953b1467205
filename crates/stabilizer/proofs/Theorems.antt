-- The statements of the group and of canonical generators that rest on reduction: the laws of what rows generate, said
-- of members. And the numbers with which the call refuses: each check has its number, and a chain of checks has those
-- of its parts.
use Rattle.std.specs.Prelude.{Option, Some, None}
use mathlib.Core.Bool.{Bool, true, false, cond}
use mathlib.Core.List.{List, [], ◌∷◌, ◌++◌}
use mathlib.Core.Logic.Iff
use mathlib.Core.Logic.{◌↔◌}
use mathlib.Core.Path.{◌≡◌, refl}
use Prim.Native.Nat.{ℕ}
use Rattle.pauli.specs.declared.Pauli.{Pauli}
use Rattle.letters.specs.declared.Sign.{Sign}
use Rattle.letters.specs.declared.Sign.TheVariants.{Plus, Minus}
use Rattle.pauli.specs.Letters.{row_of}
use Rattle.letters.specs.Lists.{any_of, all_of}
use Rattle.pauli.specs.Product.{identity, modulo4, same_masks, same_pauli}
use Rattle.code_record.specs.declared.Code.{Code}
use Rattle.refusals.specs.declared.Family.{Family}
use Rattle.refusals.specs.declared.Refusal.{Refusal}
use Rattle.code_record.specs.Record.{is_row, on_qubits, generators}
use Rattle.sheet.proofs.Numbers.{IfRefused, law-of-refusal, refuse_if-lawful, then-lawful, limits-lawful}
use Rattle.sheet.proofs.Numbers.{written-lawful}
use Rattle.stabilizer.specs.Canonical.{reduced, reduces_to_identity, canonical_generators, canonical_text}
use Rattle.stabilizer.specs.Canonical.{write_canonical}
use Rattle.stabilizer.specs.Checks.{minus_identity, first_fault, clash, dependence, generator_fault, group_fault}
use Rattle.stabilizer.specs.Group.{InGroup, row_in_group, member_sign, in_group_up_to_phase}
use Rattle.stabilizer.specs.Statements.{ReductionKeepsTheGroup, ReductionDecidesMembership, StabilizerRows}
use Rattle.stabilizer.specs.Statements.{FaultlessRowsStabilize, MemberSignIsDecided}
use Rattle.stabilizer.specs.Statements.{CanonicalGeneratorsAreCanonical, CanonicalGeneratorsAreCounted}
use Rattle.stabilizer.specs.Statements.{CanonicalRefusalNumbers}
use Rattle.stabilizer.proofs.All.{all-of, map-own}
use Rattle.stabilizer.proofs.Echelon.{echelon-is-reduced, reduced-is-echelon}
use Rattle.stabilizer.proofs.Faults.{reduced_sign, one-sign, faultless-independent, member-sign-reduced}
use Rattle.stabilizer.proofs.Generated.{whole, phase_aside, Closed, Generated}
use Rattle.stabilizer.proofs.Independent.{Independent, canonical-length-le}
use Rattle.stabilizer.proofs.StabilizerRows.{Stabilizer, squares-rows, qubits-rows, canonical-same}
use Rattle.stabilizer.proofs.StabilizerRows.{canonical-rows}
use Rattle.stabilizer.proofs.Members.{in_group, in-group-aside, commuting-places, commuting-at, group-is-listed}
use Rattle.stabilizer.proofs.Members.{membership-is-decided}
use Rattle.stabilizer.proofs.Reduction.{reduced-same, canonical-echelon, canonical-low, reduces-decides}
use Rattle.stabilizer.proofs.Reduction.{canonical-decides}
use Rattle.stabilizer.proofs.Tests.{same_tests}

-- ---- the group

pub reduction_keeps-the-group : ReductionKeepsTheGroup
reduction_keeps-the-group n rows P are_rows commuting R =
    let all = rows ++ P ∷ [] in
    let closed : Closed whole all =
    (commuting-places all commuting, squares-rows n all ((all-of (is_row n) all).0 are_rows)) in
    Iff.trans (in_group all R) (Iff.trans (reduced-same whole n rows P closed R) (Iff.symm (in_group _ R)))

pub reduction_decides-membership : ReductionDecidesMembership
reduction_decides-membership = record {
  echelon = λ n rows e P. decided rows P (reduces-decides n rows (reduced-is-echelon n rows e) P);
  canonical = λ n rows q P. decided rows P (canonical-decides n rows ((all-of (on_qubits n) rows).0 q) P);
}
  where
    decided : {test : Bool} (rows : List Pauli) (P : Pauli) → (test ≡ true) ↔ Generated phase_aside rows P
        → test ≡ in_group_up_to_phase rows P
    decided {test} rows P h =
        same_tests test (in_group_up_to_phase rows P)
        (Iff.trans h (Iff.symm (Iff.trans (membership-is-decided rows P) (in-group-aside rows P))))

-- ---- rows that pass 6 to 8

independent : (n at : ℕ) (rows : List Pauli) → all_of (is_row n) rows ≡ true → generator_fault at rows ≡ None
    → Independent n rows
independent n at rows are_rows = faultless-independent n at rows ((all-of (is_row n) rows).0 are_rows)

pub faultless-rows-stabilize : FaultlessRowsStabilize
faultless-rows-stabilize n at rows are_rows faultless =
    let s = (independent n at rows are_rows faultless).stabilizer in
    record {
      are_rows = are_rows;
      commuting = commuting-at rows s.commuting;
      no_minus = λ m. s.no_minus ((in_group rows minus_identity).0 m);
    }

pub canonical-generators-are-counted : CanonicalGeneratorsAreCounted
canonical-generators-are-counted =
    record {
      few = canonical-length-le;
      same = λ n at rows are_rows faultless. (independent n at rows are_rows faultless).count;
    }

-- ---- rows that generate a stabilizer group

stabilizer : (n : ℕ) (rows : List Pauli) → StabilizerRows n rows → Stabilizer n rows
stabilizer n rows s = record {
  are_rows = (all-of (is_row n) rows).0 s.are_rows;
  commuting = commuting-places rows s.commuting;
  no_minus = λ g. s.no_minus ((in_group rows minus_identity).1 g);
}

pub canonical-generators-are-canonical : CanonicalGeneratorsAreCanonical
canonical-generators-are-canonical n rows stabilizing =
    let hs = canonical_generators n rows in
    let s = stabilizer n rows stabilizing in
    record {
      same_group = λ P. Iff.trans (in_group rows P) (Iff.trans (canonical-same n rows s P) (Iff.symm (in_group hs P)));
      signed = (all-of (is_row n) hs).1 (canonical-rows n rows s);
      phases = map-own modulo4 hs (canonical-low n rows);
      echelon = echelon-is-reduced n hs (canonical-echelon n rows (qubits-rows n rows s.are_rows));
    }

-- ---- the sign of a member

sign-found : (plus minus : Bool) → (plus ≡ true → minus ≡ true → ⊥) → let sign : Option Sign =
    cond plus (Some Plus) (cond minus (Some Minus) None) in
    ((sign ≡ Some Plus) ↔ (plus ≡ true)) × ((sign ≡ Some Minus) ↔ (minus ≡ true))
sign-found true true apart = absurd (apart refl refl)
sign-found true false apart = ((λ h. refl, λ h. refl), (λ h. cc, λ h. cc))
sign-found false true apart = ((λ h. cc, λ h. cc), (λ h. refl, λ h. refl))
sign-found false false apart = ((λ h. cc, λ h. cc), (λ h. cc, λ h. cc))

sign-missing : (one minus : Bool) → (cond one (Some (cond minus Minus Plus)) None ≡ None) ↔ (one ≡ false)
sign-missing true minus = (λ h. cc, λ h. cc)
sign-missing false minus = (λ h. refl, λ h. refl)

-- What is left of the row + has no one exactly where its masks are generated.
not_in-group : (n : ℕ) (rows : List Pauli) → StabilizerRows n rows → (P : Pauli)
    → (member_sign rows P ≡ None) ↔ (in_group_up_to_phase rows P ≡ false)
unfolding reduced_sign reduces_to_identity in_group_up_to_phase same_masks row_of
not_in-group n rows stabilizing P =
    let R = row_of Plus P.a P.b in
    let Q = reduced n (canonical_generators n rows) R in
    let s = stabilizer n rows stabilizing in
    let qubits = (all-of (on_qubits n) rows).1 (qubits-rows n rows s.are_rows) in
    rw (member-sign-reduced n rows s P, ← reduction_decides-membership.canonical n rows qubits R)
    (sign-missing (same_masks Q identity) (same_pauli minus_identity Q))

pub member-sign-is-decided : MemberSignIsDecided
unfolding member_sign row_in_group
member-sign-is-decided n rows stabilizing P =
    record { found = of-sign; missing = not_in-group n rows stabilizing P }
  where
    member : (sign : Sign) → (row_in_group rows sign P ≡ true) ↔ InGroup rows (row_of sign P.a P.b)
    member sign = group-is-listed rows (row_of sign P.a P.b)

    apart : row_in_group rows Plus P ≡ true → row_in_group rows Minus P ≡ true → ⊥
    apart plus minus =
        one-sign n rows (stabilizer n rows stabilizing) P.a P.b ((in_group rows _).0 ((member Plus).0 plus))
        ((in_group rows _).0 ((member Minus).0 minus))

    of-sign : (sign : Sign) → (member_sign rows P ≡ Some sign) ↔ InGroup rows (row_of sign P.a P.b)
    of-sign Plus = Iff.trans (sign-found (row_in_group rows Plus P) (row_in_group rows Minus P) apart).0 (member Plus)
    of-sign Minus = Iff.trans (sign-found (row_in_group rows Plus P) (row_in_group rows Minus P) apart).1 (member Minus)

-- ---- refusals

module _ {Law : Refusal → Type 0} where
  pub first-lawful : (check : List Pauli → ℕ → Pauli → Option Refusal)
      → ((before : List Pauli) (at : ℕ) (P : Pauli) → IfRefused Law (check before at P))
      → (before : List Pauli) (at : ℕ) (rows : List Pauli) → IfRefused Law (first_fault check before at rows)
  unfolding first_fault
  first-lawful check each before at [] = IfRefused.unrefused
  first-lawful check each before at (P ∷ rows) =
      then-lawful (each before at P) (first-lawful check each (before ++ P ∷ []) _ rows)

  -- The checks of generators have the numbers 6, 7 and 8, and those of a record's generators 15 too.
  pub generators-lawful : (at : ℕ) (rows : List Pauli)
      → ((at : ℕ) (family : Family) → Law (Refusal.GeneratorsAnticommute at family))
      → ((at : ℕ) (family : Family) → Law (Refusal.MinusIdentity at family))
      → ((at : ℕ) (family : Family) → Law (Refusal.DependentGenerator at family))
      → IfRefused Law (generator_fault at rows)
  unfolding generator_fault clash dependence
  generators-lawful at rows six seven eight =
      let clashes = first-lawful clash (λ before at P. refuse_if-lawful _ _ (six _ _)) [] _ _ in
      let depends =
      first-lawful dependence
      (λ before at P. then-lawful (refuse_if-lawful _ _ (seven _ _)) (refuse_if-lawful _ _ (eight _ _))) [] _ _ in
      then-lawful clashes depends

  group-lawful : (c : Code) → ((at : ℕ) (family : Family) → Law (Refusal.GeneratorsAnticommute at family))
      → ((at : ℕ) (family : Family) → Law (Refusal.MinusIdentity at family))
      → ((at : ℕ) (family : Family) → Law (Refusal.DependentGenerator at family))
      → Law Refusal.RecordLimits → IfRefused Law (group_fault c)
  unfolding group_fault
  group-lawful c six seven eight fifteen =
      then-lawful (limits-lawful c fifteen) (generators-lawful _ (generators c) six seven eight)

pub canonical-refusal-numbers : CanonicalRefusalNumbers
unfolding write_canonical any_of
canonical-refusal-numbers = record {
  call = λ c buffer. law-of-refusal
      (written-lawful (canonical_text c) buffer (group-lawful c (λ at f. refl) (λ at f. refl) (λ at f. refl) refl)
      refl);
  checks = λ c. law-of-refusal (group-lawful c (λ at f. refl) (λ at f. refl) (λ at f. refl) refl);
}
