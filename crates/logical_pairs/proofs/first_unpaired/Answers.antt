-- 10 is found at the first logical that pairs wrongly with an earlier one: the logicals are tried in turn, each with
-- those before it in turn.
use mathlib.Core.Bool.{Bool, ◌||◌, beq}
use mathlib.Core.Path.{◌≡◌, refl, ap, sym, ◌∙◌}
use Prim.Native.Nat.{ℕ, ◌+◌, ◌-◌, ◌*◌, ◌<◌}
use native.Mathlib.Omega.{arith}
use lib.Dec.{eqb}
use lib.ListN.{length, get_or}
use Rattle.pauli.specs.declared.Pauli.{Pauli}
use Rattle.pauli.specs.Product.{identity, commutes}
use Rattle.code_record.specs.declared.Code.{Code}
use Rattle.code_record.proofs.ArrayLengths.{sized_of}
use Rattle.admission.specs.Logicals.{logicals}
use Rattle.logical_pairs.proofs.LogicalPlaces.{known, Logical, logicals-length, x-at, z-at, before-length}
use Rattle.logical_pairs.specs.FirstPlace.{first_place, unpaired_at, first_unpaired}
use Rattle.logical_pairs.proofs.FirstFault.{unpaired-told}
use Rattle.logical_pairs.proofs.Places.{place_here, place-later, place_end}
use Rattle.logical_pairs.proofs.Pairs.{WrongFrom, wrong-at, wrong-end}
use Rattle.logical_pairs.proofs.first_unpaired.Goals as goal
use Rattle.logical_pairs.proofs.first_unpaired.Goals.{then-place-xs, else-place-xs, then-earlier-xs, else-earlier-xs}

-- An earlier logical Q was tried: whether it pairs wrongly, or else one behind it.
tried : {code : Code} {pairs xs place earlier : ℕ} {P Q : Pauli} {met t : Bool} → Logical code pairs xs place P
    → earlier < place → Q ≡ get_or (logicals code) earlier identity → met ≡ commutes P Q
    → beq met (eqb (place - earlier) pairs) ≡ t
    → (t || WrongFrom pairs place (earlier + 1) (logicals code) P) ≡ WrongFrom pairs place earlier (logicals code) P
tried {code} {pairs} {xs} {place} {earlier} {P} logical before row told test =
    wrong-at pairs place earlier (logicals code) P before
    (omega (arith, logical.within, logicals-length logical.known))
    (ap (λ t. beq t (eqb (place - earlier) pairs)) (sym (told ∙ ap (commutes P) row)) ∙ test)

pub loop-place-init : goal.loop-place-init
unfolding first_unpaired
loop-place-init c =
    let code = c.args.code in
    let k = known code (sized_of code c.well_formed.0) c.pair_count-pairs.ensures c.min-xs.ensures in
    let all : 2 * c.min-xs.result - 0 ≡ length (logicals code) = omega (arith, logicals-length k) in
    ap (first_place (unpaired_at code) 0) all

pub loop-earlier-init : goal.loop-earlier-init
loop-earlier-init c =
    let code = c.args.code in
    let place = c.loop-place.place in
    let within = c.loop-place-test.true in
    let k = known code (sized_of code c.well_formed.0) c.pair_count-pairs.ensures c.min-xs.ensures in (
      record {
        known = k;
        within = within;
        row = elim c.if-place-xs.branch [
          | then-place-xs w ↦ w.p-is ∙ x-at k place w.if-place-xs.true
          | else-place-xs w ↦ w.p-is ∙ z-at k place w.if-place-xs.false within
        ];
      },
      refl,
    )

pub returns-then-commutes-partner : goal.returns-then-commutes-partner
returns-then-commutes-partner c =
    let logical = c.loop-earlier.invariant.0 in
    let earlier = c.loop-earlier.earlier in
    let row : c.if-earlier-xs.q ≡ get_or (logicals c.args.code) earlier identity =
    elim c.if-earlier-xs.branch [
      | then-earlier-xs w ↦ w.q-is ∙ x-at logical.known earlier w.if-earlier-xs.true
      | else-earlier-xs w ↦ w.q-is ∙ z-at logical.known earlier w.if-earlier-xs.false (omega (arith, logical.within))
    ] in
    place_here (unpaired_at c.args.code) c.loop-place.place _
    (unpaired-told logical
    (tried logical c.loop-earlier-test.true row c.commutes.ensures c.if-commutes-partner.true
    ∙ c.loop-earlier.invariant.1)) logical.within
    ∙ c.loop-place.invariant

pub loop-earlier-preserved : goal.loop-earlier-preserved
loop-earlier-preserved c =
    let logical = c.loop-earlier.invariant.0 in
    let earlier = c.loop-earlier.earlier in
    let row : c.if-earlier-xs.q ≡ get_or (logicals c.args.code) earlier identity =
    elim c.if-earlier-xs.branch [
      | then-earlier-xs w ↦ w.q-is ∙ x-at logical.known earlier w.if-earlier-xs.true
      | else-earlier-xs w ↦ w.q-is ∙ z-at logical.known earlier w.if-earlier-xs.false (omega (arith, logical.within))
    ] in (
      logical,
      tried logical c.loop-earlier-test.true row c.commutes.ensures c.if-commutes-partner.false
          ∙ c.loop-earlier.invariant.1,
    )

pub loop-place-preserved : goal.loop-place-preserved
loop-place-preserved c =
    let logical = c.loop-earlier.invariant.0 in
    let place = c.loop-place.place in
    let before = before-length logical.known place logical.within in
    place-later _ place _
    (unpaired-told logical (wrong-end _ place c.loop-earlier.earlier _ _
    (omega (arith, c.loop-earlier-test.false, before)) ∙ c.loop-earlier.invariant.1)) logical.within
    ∙ c.loop-place.invariant

pub returns : goal.returns
returns c =
    let place = c.loop-place.place in
    let end : 2 * c.min-xs.result ≡ place = omega (arith, c.loop-place.auto.place-end, c.loop-place-test.false) in
    end ∙ place_end (unpaired_at c.args.code) place _ c.loop-place-test.false ∙ c.loop-place.invariant
