-- 6 to 8, and the sign of a member, as elimination finds them: the checks by selections, seen from what is left of a
-- row. That is the row times a member, and the square of a row is I, so the row or its negative is a member exactly
-- where I or -I is left. Members with the same masks are the same.
use Rattle.letters.proofs.Options.{some-none}
use Rattle.std.specs.Prelude.{Option, Some, None}
use mathlib.Core.Bool.{Bool, true, false, cond, not, ◌&&◌, false≢true, not-eq-not}
use mathlib.Core.List.{List, [], ◌∷◌, ◌++◌, map, append-nil, append_assoc}
use mathlib.Core.Logic.Iff
use mathlib.Core.Logic.{◌↔◌, ◌⊎◌, inl, inr, ⊎_elim}
use mathlib.Core.Path.{◌≡◌, refl, ap, ap₂, sym, subst, ◌∙◌}
use Prim.Native.Nat.{ℕ, ◌+◌, ◌/◌, ◌%◌}
use native.Mathlib.Omega.{arith}
use lib.Bits.{xor_zero_r}
use borrow.Author.Tests.{eq-eqb, not-false}
use Rattle.pauli.specs.declared.Pauli.{Pauli}
use Rattle.letters.specs.declared.Sign.{Sign}
use Rattle.letters.specs.declared.Sign.TheVariants.{Plus, Minus}
use Rattle.pauli.specs.Letters.{row_phase, row_of, has_sign, is_signed_row}
use Rattle.letters.specs.Lists.{any_of}
use Rattle.pauli.specs.Masks.{dot}
use Rattle.pauli.specs.Product.{identity, product, commutes, anticommutes, symplectic, modulo4, has_phase, same_masks}
use Rattle.pauli.specs.Product.{same_pauli}
use Rattle.pauli.proofs.Masks.{count_ones-zero, dot-comm}
use Rattle.pauli.proofs.Modulo.{same-remainder}
use Rattle.pauli.proofs.Product.{same_parts}
use Rattle.pauli.proofs.Rows.{rows-product}
use Rattle.refusals.specs.declared.Family.{Family}
use Rattle.refusals.specs.declared.Refusal.{Refusal}
use Rattle.code_record.specs.Record.{is_row}
use Rattle.refusals.specs.Refusals.{refuse_if, ◌then◌}
use Rattle.code_record.proofs.Limits.{both}
use Rattle.stabilizer.specs.Canonical.{reduced, reduces_to_identity, canonical_generators}
use Rattle.stabilizer.specs.Checks.{first_fault, minus_identity, clash, dependence, generator_fault}
use Rattle.stabilizer.specs.Group.{group, product_of, member_sign, row_in_group}
use Rattle.stabilizer.proofs.All.{All, all_map, all_append, none_of}
use Rattle.stabilizer.proofs.Generated.{whole, phase_aside, masks_of, brought_l, Commute, Commuting, Generated}
use Rattle.stabilizer.proofs.Generated.{generated-as, generated-product}
use Rattle.stabilizer.proofs.Independent.{Independent, independent-none, independent-more}
use Rattle.stabilizer.proofs.Members.{commute-whole, square-row, square-aside, same-pauli, same-masks}
use Rattle.stabilizer.proofs.Members.{group-some, in_group, group-is-listed}
use Rattle.stabilizer.proofs.Reduction.{reduces, canonical-decides}
use Rattle.stabilizer.proofs.StabilizerRows.{Rows, Stabilizer, stabilizer-closed, canonical-same, plus-or-minus}
use Rattle.stabilizer.proofs.StabilizerRows.{generated-rows}
use Rattle.stabilizer.proofs.StabilizerRows.{masks-of-whole, commuting-more, minus-is-not-plus, row-parts}
use Rattle.stabilizer.proofs.StabilizerRows.{qubits-rows}
use Rattle.stabilizer.proofs.Tests.{same_tests, any-map}

-- The fault that a row shows once it is reduced, at its line.
unfoldable pub reduced_fault : ℕ → Pauli → Option Refusal
reduced_fault at Q =
    cond (same_masks Q identity)
    (Some (cond (same_pauli minus_identity Q) (Refusal.MinusIdentity at Family.Generator)
    (Refusal.DependentGenerator at Family.Generator))) None

-- The sign that the row + of these masks shows once it is reduced.
unfoldable pub reduced_sign : Pauli → Option Sign
reduced_sign Q = cond (same_masks Q identity) (Some (cond (same_pauli minus_identity Q) Minus Plus)) None

-- ---- checks that find nothing

pub nothing_then : (first next : Option Refusal) → (first then next) ≡ None → (first ≡ None) × (next ≡ None)
unfolding ◌then◌
nothing_then None next h = (refl, h)
nothing_then (Some refusal) next h = absurd (some-none refusal h)

pub unrefused : (test : Bool) (refusal : Refusal) → refuse_if test refusal ≡ None → test ≡ false
unfolding refuse_if
unrefused true refusal h = absurd (some-none refusal h)
unrefused false refusal h = refl

-- Where a check finds nothing, what each of its steps keeps is kept along all rows.
kept : (check : List Pauli → ℕ → Pauli → Option Refusal) (Known : List Pauli → Type 0)
    → ((before : List Pauli) (at : ℕ) (P : Pauli) → check before at P ≡ None → Known before → Known (before ++ P ∷ []))
    → (before : List Pauli) (at : ℕ) (rows : List Pauli) → first_fault check before at rows ≡ None → Known before
    → Known (before ++ rows)
unfolding first_fault
kept check Known step before at [] h known = rw append-nil known
kept check Known step before at (P ∷ rows) h known =
    let clear = nothing_then (check before at P) _ h in
    subst Known (append_assoc before (P ∷ []) rows)
    (kept check Known step (before ++ P ∷ []) (at + 1) rows clear.1 (step before at P clear.0 known))

-- ---- 6

clash-free : (before : List Pauli) (at : ℕ) (P : Pauli) → clash before at P ≡ None → All (Commute whole P) before
unfolding clash anticommutes
clash-free before at P h =
    all_map (λ Q e. (commute-whole P Q).0 (not-false (commutes P Q) e)) before
    (none_of (anticommutes P) before (unrefused _ _ h))

-- Rows that pass 6 commute.
pub clash-free-commuting : (at : ℕ) (rows : List Pauli) → first_fault clash [] at rows ≡ None → Commuting whole rows
clash-free-commuting at rows h =
    kept clash (Commuting whole)
    (λ before at P clear c. commuting-more whole before P c (clash-free before at P clear)) [] at rows h tt

-- ---- a row seen from what is left of it

minus-masks : masks_of minus_identity ≡ masks_of identity
unfolding masks_of minus_identity
minus-masks = refl

commutes-with-masks : (P Q : Pauli) → masks_of P ≡ masks_of Q → commutes P Q ≡ true
unfolding commutes symplectic masks_of
commutes-with-masks P Q e =
    eq-eqb (symplectic P Q) 0 (rw (ap (λ (R : Pauli). R.a) e, ap (λ (R : Pauli). R.b) e) (omega arith))

module _ (n : ℕ) (rows : List Pauli) (s : Stabilizer n rows) where
  member-signed : (S : Pauli) → Generated whole rows S → is_signed_row S ≡ true
  member-signed S g = (row-parts n S (generated-rows n rows s.are_rows s.commuting S g)).1

  -- Members with the same masks are the same.
  members-same : (S T : Pauli) → masks_of S ≡ masks_of T → Generated whole rows S → Generated whole rows T
      → modulo4 S ≡ modulo4 T
  members-same S T e gS gT =
      let both = generated-product whole rows (stabilizer-closed n rows s) S T gS gT in
      ⊎_elim
      (λ one. sym (brought_l whole S T identity (square-row S (member-signed S gS)) one ∙ whole.identity-r S))
      (λ minus. absurd (s.no_minus (generated-as whole rows (product S T) minus_identity minus both)))
      (plus-or-minus (product S T) (member-signed (product S T) both)
      (phase_aside.product-as S T T T e refl ∙ square-aside T))

  module _ (P : Pauli) (signed : is_signed_row P ≡ true) where
    abbrev left : Pauli
    left = reduced n (canonical_generators n rows) P

    -- What is left is P times a member.
    factor : (S : Pauli) × Generated whole rows S × (modulo4 left ≡ modulo4 (product P S))
    factor = let r = reduces whole n (canonical_generators n rows) P in
        (r.by, (canonical-same n rows s r.by).1 r.generated, r.left)

    -- If that is I, phase aside, the member has P's masks.
    factor-masks : masks_of left ≡ masks_of identity → masks_of P ≡ masks_of factor.0
    factor-masks e =
        sym (brought_l phase_aside P factor.0 identity (square-aside P)
        (sym (masks-of-whole left (product P factor.0) factor.2) ∙ e)
        ∙ phase_aside.identity-r P)

    left-signed : masks_of left ≡ masks_of identity
        → (modulo4 left ≡ modulo4 identity) ⊎ (modulo4 left ≡ modulo4 minus_identity)
    left-signed e =
        let S = factor.0 in let one = factor-masks e in
        ⊎_elim (λ plus. inl (factor.2 ∙ plus)) (λ minus. inr (factor.2 ∙ minus))
        (plus-or-minus (product P S)
        (rows-product P S signed (member-signed S factor.1) (commutes-with-masks P S one))
        (phase_aside.product-as P S S S one refl ∙ square-aside S))

    -- P times X, which is I or -I, is a member exactly where X is left.
    left-decides : (X : Pauli) → masks_of X ≡ masks_of identity
        → Generated whole rows (product P X) ↔ (modulo4 left ≡ modulo4 X)
    unfolding reduces_to_identity
    left-decides X zero = (to, from)
      where
        square : modulo4 (product P P) ≡ modulo4 identity
        square = square-row P signed

        from : modulo4 left ≡ modulo4 X → Generated whole rows (product P X)
        from e = generated-as whole rows factor.0 (product P X)
            (brought_l whole P factor.0 X square (sym factor.2 ∙ e)) factor.1

        to : Generated whole rows (product P X) → modulo4 left ≡ modulo4 X
        to g =
            let masks : masks_of (product P X) ≡ masks_of P = phase_aside.product-as P P X identity refl zero
            ∙ phase_aside.identity-r P in
            let gone =
            (canonical-decides n rows (qubits-rows n rows s.are_rows) P).1
            (g.0, masks-of-whole _ (product P X) g.1 ∙ masks) in
            factor.2 ∙ sym (brought_l whole P X factor.0 square
            (members-same (product P X) factor.0 (masks ∙ factor-masks ((same-masks left identity).0 gone)) g
            factor.1))

    -- So the tests for these products, and those on what is left, say the same.
    plus-told : Generated whole rows (product P identity)
        ↔ ((same_masks left identity && not (same_pauli minus_identity left)) ≡ true)
    plus-told =
        Iff.trans (left-decides identity refl) (
          λ e. rw ((same-masks left identity).1 (masks-of-whole left identity e))
              (ap not ((not-eq-not {b = false}).0 λ h. minus-is-not-plus ((same-pauli minus_identity left).0 h ∙ e))),
          λ h. let tests = both (same_masks left identity) (not (same_pauli minus_identity left)) h in
              ⊎_elim (λ plus. plus)
              (λ minus. absurd (false≢true (rw ((same-pauli minus_identity left).1 (sym minus)) at tests.1)))
              (left-signed ((same-masks left identity).0 tests.0)),
        )

    minus-told : Generated whole rows (product P minus_identity)
        ↔ ((same_masks left identity && same_pauli minus_identity left) ≡ true)
    minus-told =
        Iff.trans (left-decides minus_identity minus-masks) (
          λ e. rw ((same-masks left identity).1 (masks-of-whole left minus_identity e ∙ minus-masks))
              ((same-pauli minus_identity left).1 (sym e)),
          λ h. sym ((same-pauli minus_identity left).0
              (both (same_masks left identity) (same_pauli minus_identity left) h).1),
        )

-- ---- 7 and 8

product-tested : (rows : List Pauli) (P X : Pauli) → modulo4 (product P P) ≡ modulo4 identity
    → (any_of (same_pauli X) (map (product P) (group rows)) ≡ true) ↔ Generated whole rows (product P X)
product-tested rows P X square =
    rw any-map (Iff.trans (group-some (λ S. same_pauli X (product P S)) rows) (
      λ (s, h). (
        s,
        brought_l whole P (product_of s rows) X square
            (sym ((same-pauli X (product P (product_of s rows))).0 h)),
      ),
      λ (s, e). (
        s,
        (same-pauli X (product P (product_of s rows))).1
            (brought_l whole P X (product_of s rows) square (sym e)),
      ),
    ))

fault-of-tests : (x y : Bool) (minus plus : Refusal)
    → (refuse_if (x && y) minus then refuse_if (x && not y) plus) ≡ cond x (Some (cond y minus plus)) None
unfolding refuse_if ◌then◌
fault-of-tests true true minus plus = refl
fault-of-tests true false minus plus = refl
fault-of-tests false y minus plus = refl

-- 7 and 8 of one row.
pub dependence-reduced : (n : ℕ) (before : List Pauli) (at : ℕ) (P : Pauli) → Stabilizer n before → is_row n P ≡ true
    → dependence before at P ≡ reduced_fault at (reduced n (canonical_generators n before) P)
unfolding dependence reduced_fault
dependence-reduced n before at P s row =
    let Q = reduced n (canonical_generators n before) P in
    let signed = (row-parts n P row).1 in
    let seven = Refusal.MinusIdentity at Family.Generator in
    let eight = Refusal.DependentGenerator at Family.Generator in
    ap₂ (λ minus plus. refuse_if minus seven then refuse_if plus eight)
    (same_tests _ _
    (Iff.trans (product-tested before P minus_identity (square-row P signed)) (minus-told n before s P signed)))
    (same_tests _ _
    (Iff.trans (product-tested before P identity (square-row P signed)) (plus-told n before s P signed)))
    ∙ fault-of-tests (same_masks Q identity) (same_pauli minus_identity Q) _ _

-- Rows that pass 6 to 8 are independent.
pub faultless-independent : (n at : ℕ) (rows : List Pauli) → Rows n rows → generator_fault at rows ≡ None
    → Independent n rows
unfolding generator_fault reduced_fault refuse_if reduces_to_identity
faultless-independent n at rows r h =
    let (no-clash, no-dependence) = nothing_then (first_fault clash [] at rows) _ h in
    kept dependence
    (λ before. Rows n before → Commuting whole before → Independent n before) step [] at rows no-dependence
    (λ _ _. independent-none n) r (clash-free-commuting at rows no-clash)
  where
    step : (before : List Pauli) (at : ℕ) (P : Pauli) → dependence before at P ≡ None
        → (Rows n before → Commuting whole before → Independent n before)
        → Rows n (before ++ P ∷ []) → Commuting whole (before ++ P ∷ []) → Independent n (before ++ P ∷ [])
    step before at P clear known r c =
        let rows = (all_append (λ P. is_row n P ≡ true) before (P ∷ [])).0 r in
        let all = (all_append (λ g. All (Commute whole g) (before ++ P ∷ [])) before (P ∷ [])).0 c in
        let with-P = ((all_append (Commute whole P) before (P ∷ [])).0 all.1.0).0 in
        let i = known rows.0
        (all_map (λ g h. ((all_append (Commute whole g) before (P ∷ [])).0 h).0) before all.0) in
        let left = reduced n (canonical_generators n before) P in
        independent-more n before P i rows.1.0 with-P
        (unrefused (same_masks left identity) _
        (sym (dependence-reduced n before at P i.stabilizer rows.1.0) ∙ clear))

-- ---- the sign of a member

-- Of one row's two signs at most one is a member's.
pub one-sign : (n : ℕ) (rows : List Pauli) → Stabilizer n rows → (a b : ℕ) → Generated whole rows (row_of Plus a b)
    → Generated whole rows (row_of Minus a b) → ⊥
unfolding row_of row_phase masks_of modulo4
one-sign n rows s a b plus minus =
    let e = ap (λ (R : Pauli). R.p) (members-same n rows s (row_of Plus a b) (row_of Minus a b) refl plus minus) in
    omega arith

plus-signed : (a b : ℕ) → is_signed_row (row_of Plus a b) ≡ true
unfolding is_signed_row has_sign has_phase row_of
plus-signed a b = rw (eq-eqb (row_phase Plus a b % 4) (row_phase Plus a b % 4) refl)

minus-row : (a b : ℕ) → row_of Minus a b ≡ product (row_of Plus a b) minus_identity
unfolding row_of row_phase product minus_identity dot
minus-row a b =
    same_parts (row_of Minus a b) (product (row_of Plus a b) minus_identity)
    (same-remainder 4 _ _ 0 (dot a b / 4) (omega (arith, dot-comm b 0 ∙ count_ones-zero))) (sym (xor_zero_r a))
    (sym (xor_zero_r b))

row-tested : (rows : List Pauli) (sign : Sign) (P Q : Pauli) → modulo4 (row_of sign P.a P.b) ≡ modulo4 Q
    → (row_in_group rows sign P ≡ true) ↔ Generated whole rows Q
unfolding row_in_group
row-tested rows sign P Q e =
    let R = row_of sign P.a P.b in
    Iff.trans (group-is-listed rows R)
    (Iff.trans (in_group rows R) (generated-as whole rows R Q e, generated-as whole rows Q R (sym e)))

sign-of-tests : (x y : Bool)
    → cond (x && not y) (Some Plus) (cond (x && y) (Some Minus) None) ≡ cond x (Some (cond y Minus Plus)) None
sign-of-tests true true = refl
sign-of-tests true false = refl
sign-of-tests false y = refl

-- The sign that a member has is seen from what is left of the row + with its masks.
pub member-sign-reduced : (n : ℕ) (rows : List Pauli) → Stabilizer n rows → (P : Pauli)
    → member_sign rows P ≡ reduced_sign (reduced n (canonical_generators n rows) (row_of Plus P.a P.b))
unfolding member_sign reduced_sign
member-sign-reduced n rows s P =
    let R = row_of Plus P.a P.b in let Q = reduced n (canonical_generators n rows) R in let signed =
    plus-signed P.a P.b in
    let minus = ap modulo4 (minus-row P.a P.b) in
    ap₂ (λ plus minus. cond plus (Some Plus) (cond minus (Some Minus) None))
    (same_tests _ _
    (Iff.trans (row-tested rows Plus P (product R identity) (sym (whole.identity-r R)))
    (plus-told n rows s R signed)))
    (same_tests _ _
    (Iff.trans (row-tested rows Minus P (product R minus_identity) minus) (minus-told n rows s R signed)))
    ∙ sign-of-tests (same_masks Q identity) (same_pauli minus_identity Q)
