-- The group of rows is what they generate: whole, with its signs, and phase aside. So commuting rows generate a group,
-- and the list of all products decides who is a member: a test holds somewhere in the list exactly where it holds of
-- some selection's product.
use mathlib.Core.Bool.{Bool, true, false, ◌||◌, and-eq-true_iff, or-true, or-false}
use mathlib.Core.List.{List, [], ◌∷◌, ◌++◌, map}
use mathlib.Core.Logic.Iff
use mathlib.Core.Logic.{◌↔◌, ⊎_elim}
use mathlib.Core.Path.{◌≡◌, refl, ap, ap₂, sym, ◌∙◌}
use Prim.Native.Nat.{◌%◌}
use native.Mathlib.Nat.{mod-eq_of_lt}
use native.Mathlib.Omega.{arith}
use lib.Bits.{xor_comm, xor_self}
use lib.Dec.{eqb}
use borrow.Author.Tests.{eqb-true, eq-eqb}
use Rattle.pauli.specs.declared.Pauli.{Pauli}
use Rattle.letters.specs.declared.Sign.{Sign}
use Rattle.letters.specs.declared.Sign.TheVariants.{Plus, Minus}
use Rattle.pauli.specs.Letters.{row_phase, has_sign, is_signed_row}
use Rattle.letters.specs.Letters.{sign_phase}
use Rattle.letters.specs.Lists.{any_of}
use Rattle.pauli.specs.Product.{identity, product, commutes, same_masks, modulo4, has_phase, same_pauli}
use Rattle.pauli.proofs.Masks.{dot-comm}
use Rattle.pauli.proofs.Product.{pauli, same_parts, product-phase-lt, commutes-decides}
use Rattle.stabilizer.specs.Group.{product_of, InGroup, InGroupUpToPhase, group, in_group_up_to_phase}
use Rattle.stabilizer.specs.Statements.{GroupIsListed, MembershipIsDecided, Commuting as CommutingPlaces}
use Rattle.stabilizer.specs.Statements.{CommutingRowsAreAGroup}
use Rattle.stabilizer.proofs.All.{All, all_map, all-at, all-places, all-of}
use Rattle.stabilizer.proofs.Generated.{View, masks_of, whole, phase_aside, Commute, Commuting, Generated}
use Rattle.stabilizer.proofs.Generated.{none-taken, generates-rows, generated-product}
use Rattle.stabilizer.proofs.Tests.{either, any-cons, any_append, any-map}

-- ---- the tests for the same Pauli

pub same-masks : (P Q : Pauli) → (same_masks P Q ≡ true) ↔ (masks_of P ≡ masks_of Q)
unfolding same_masks masks_of
same-masks P Q = (
  λ h. let e = (and-eq-true_iff (eqb P.a Q.a) (eqb P.b Q.b)).0 h in
      ap₂ (pauli 0) (eqb-true P.a Q.a e.0) (eqb-true P.b Q.b e.1),
  λ e. (and-eq-true_iff (eqb P.a Q.a) (eqb P.b Q.b)).1
      (eq-eqb P.a Q.a (ap (λ (R : Pauli). R.a) e), eq-eqb P.b Q.b (ap (λ (R : Pauli). R.b) e)),
)

pub same-pauli : (P Q : Pauli) → (same_pauli P Q ≡ true) ↔ (modulo4 P ≡ modulo4 Q)
unfolding same_pauli has_phase modulo4 masks_of
same-pauli P Q = (
  λ h. let e = (and-eq-true_iff (has_phase Q.p P) (same_masks P Q)).0 h in let m = (same-masks P Q).0 e.1 in
      same_parts (modulo4 P) (modulo4 Q) (eqb-true (P.p % 4) (Q.p % 4) e.0) (ap (λ (R : Pauli). R.a) m)
      (ap (λ (R : Pauli). R.b) m),
  λ e. (and-eq-true_iff (has_phase Q.p P) (same_masks P Q)).1
      (eq-eqb (P.p % 4) (Q.p % 4) (ap (λ (R : Pauli). R.p) e), (same-masks P Q).1 (ap masks_of e)),
)

-- ---- the list of the group

-- A test holds of some product in the list exactly where it holds of some selection's product.
abbrev SomeSelection : (Pauli → Bool) → List Pauli → Type 0
SomeSelection test rows = (selection : List Bool) × (test (product_of selection rows) ≡ true)

pub group-some : (test : Pauli → Bool) (rows : List Pauli) → (any_of test (group rows) ≡ true) ↔ SomeSelection test rows
unfolding group product_of any_of
group-some test [] = (λ h. ([], sym one ∙ h), λ (selection, h). one ∙ ap test (sym (none-taken selection)) ∙ h)
  where
    one : any_of test (identity ∷ []) ≡ test identity
    one = any-cons test identity [] ∙ or-false (test identity)
group-some test (g ∷ rows) = (
  there (group-some test rows).0 (group-some times rows).0,
  back (group-some test rows).1 (group-some times rows).1,
)
  where
    times : Pauli → Bool
    times Q = test (product g Q)

    split : any_of test (group rows ++ map (product g) (group rows))
        ≡ (any_of test (group rows) || any_of times (group rows))
    split =
        any_append test (group rows) (map (product g) (group rows))
        ∙ ap (λ b. any_of test (group rows) || b) (any-map test (product g) (group rows))

    there : (any_of test (group rows) ≡ true → SomeSelection test rows)
        → (any_of times (group rows) ≡ true → SomeSelection times rows)
        → any_of test (group (g ∷ rows)) ≡ true → SomeSelection test (g ∷ rows)
    there skip take h =
        ⊎_elim (λ l. let s = skip l in (false ∷ s.0, s.1)) (λ r. let s = take r in (true ∷ s.0, s.1))
        (either (any_of test (group rows)) (any_of times (group rows)) (sym split ∙ h))

    back : (SomeSelection test rows → any_of test (group rows) ≡ true)
        → (SomeSelection times rows → any_of times (group rows) ≡ true)
        → SomeSelection test (g ∷ rows) → any_of test (group (g ∷ rows)) ≡ true
    back skip take ([], h) = split ∙ rw (skip ([], h))
    back skip take (false ∷ selection, h) = split ∙ rw (skip (selection, h))
    back skip take (true ∷ selection, h) = split ∙ rw (take (selection, h)) (or-true (any_of test (group rows)))

-- ---- members

-- Some selection's product passes the test: what a view's test says of what is generated.
module _ (v : View) (test : Pauli → Pauli → Bool)
    (decides : (P Q : Pauli) → (test P Q ≡ true) ↔ (v.of P ≡ v.of Q)) where
  selected : (rows : List Pauli) (P : Pauli) → SomeSelection (λ Q. test Q P) rows ↔ Generated v rows P
  selected rows P =
      (λ (s, h). (s, (decides (product_of s rows) P).0 h), λ (s, e). (s, (decides (product_of s rows) P).1 e))

  listed : (rows : List Pauli) (P : Pauli) → (any_of (test P) (group rows) ≡ true) ↔ Generated v rows P
  listed rows P =
      Iff.trans (group-some (test P) rows) (
        λ (s, h). (s, sym ((decides P (product_of s rows)).0 h)),
        λ (s, e).
            (s, (decides P (product_of s rows)).1 (sym e)),
      )

pub in_group : (rows : List Pauli) (P : Pauli) → InGroup rows P ↔ Generated whole rows P
unfolding InGroup
in_group = selected whole same_pauli same-pauli

pub in-group-aside : (rows : List Pauli) (P : Pauli) → InGroupUpToPhase rows P ↔ Generated phase_aside rows P
unfolding InGroupUpToPhase
in-group-aside = selected phase_aside same_masks same-masks

pub group-is-listed : GroupIsListed
group-is-listed rows P = Iff.trans (listed whole same_pauli same-pauli rows P) (Iff.symm (in_group rows P))

pub membership-is-decided : MembershipIsDecided
unfolding in_group_up_to_phase
membership-is-decided rows P =
    Iff.trans (listed phase_aside same_masks same-masks rows P) (Iff.symm (in-group-aside rows P))

-- ---- what commutes, and squares

-- A product's phase is below 4, so it is the same whole where it is the same.
pub product_whole : (P Q : Pauli) → modulo4 (product P Q) ≡ product P Q
unfolding modulo4
product_whole P Q = same_parts (modulo4 (product P Q)) (product P Q) (mod-eq_of_lt (product-phase-lt P Q)) refl refl

pub commute-whole : (P Q : Pauli) → (commutes P Q ≡ true) ↔ Commute whole P Q
commute-whole P Q = (
  λ h. ap modulo4 ((commutes-decides P Q).0 h),
  λ e. (commutes-decides P Q).1 (sym (product_whole P Q) ∙ e ∙ product_whole Q P),
)

pub commute_aside : (P Q : Pauli) → Commute phase_aside P Q
unfolding masks_of product
commute_aside P Q = ap₂ (pauli 0) (xor_comm P.a Q.a) (xor_comm P.b Q.b)

pub square-aside : (P : Pauli) → phase_aside.of (product P P) ≡ phase_aside.of identity
unfolding masks_of product
square-aside P = ap₂ (pauli 0) (xor_self P.a) (xor_self P.b)

pub square-row : (P : Pauli) → is_signed_row P ≡ true → whole.of (product P P) ≡ whole.of identity
unfolding is_signed_row has_sign has_phase row_phase product modulo4
square-row P h = ⊎_elim (with-sign Plus) (with-sign Minus) (either (has_sign Plus P) (has_sign Minus P) h)
  where
    even : (sign : Sign) → sign_phase sign % 2 ≡ 0
    even Plus = refl
    even Minus = refl

    with-sign : (sign : Sign) → has_sign sign P ≡ true → modulo4 (product P P) ≡ modulo4 identity
    with-sign sign h =
        same_parts _ _
        (omega (arith, eqb-true (P.p % 4) (row_phase sign P.a P.b % 4) h, even sign, dot-comm P.a P.b))
        (xor_self P.a) (xor_self P.b)

-- ---- a group

pub commuting-places : (rows : List Pauli) → CommutingPlaces rows → Commuting whole rows
commuting-places rows c =
    all-places (λ g. All (Commute whole g) rows) identity rows λ i hi.
    all-places (Commute whole _) identity rows λ j hj. (commute-whole _ _).0 (c i j hi hj)

pub commuting-at : (rows : List Pauli) → Commuting whole rows → CommutingPlaces rows
commuting-at rows c i j hi hj =
    let with-i = all-at (λ g. All (Commute whole g) rows) identity rows c i hi in
    (commute-whole _ _).1 (all-at (Commute whole _) identity rows with-i j hj)

pub commuting-rows-are-a-group : CommutingRowsAreAGroup
commuting-rows-are-a-group =
    record {
      rows = λ rows i h. (in_group rows _).1
          (all-at (Generated whole rows) identity rows (generates-rows whole rows) i h);
      products = λ rows signed c P Q p q. (in_group rows (product P Q)).1
          (generated-product whole rows
          (commuting-places rows c, all_map square-row rows ((all-of is_signed_row rows).0 signed)) P Q
          ((in_group rows P).0 p) ((in_group rows Q).0 q));
    }
