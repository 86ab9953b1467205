-- 6 is found at the first row that clashes with one before it.
use mathlib.Core.Bool.{Bool, not}
use mathlib.Core.List.{List}
use mathlib.Core.Logic.{inl, inr}
use mathlib.Core.Path.{◌≡◌, refl, ap, sym, ◌∙◌}
use Prim.Native.Nat.{ℕ, ◌+◌, ◌<◌}
use native.Mathlib.Decide.{dec_lt}
use native.Mathlib.Omega.{arith}
use lib.ListN.{length, take, get_or}
use borrow.Author.Rules.{rules}
use Rattle.pauli.specs.declared.Pauli.{Pauli}
use Rattle.refusals.specs.declared.Family.{Family}
use Rattle.refusals.specs.declared.Refusal.{Refusal}
use Rattle.letters.specs.Lists.{any_of}
use Rattle.pauli.specs.Product.{identity, anticommutes}
use Rattle.refusals.specs.Refusals.{refuse_if, ◌then◌}
use Rattle.code_record.specs.Record.{row_room, first_generator_at}
use Rattle.stabilizer.specs.Checks.{clash}
use Rattle.stabilizer.proofs.Walk.{Left, fault-start, fault-at, fault-end}
use Rattle.commutation.proofs.AnyRow.{tried-none, tried-all, tried-passes, tried-more}
use Rattle.commutation.proofs.generators_commute.Goals as goal

-- What is found at a row, and else behind it, is what is found from it on.
row-tried : (r : ℕ) (g : List Pauli) (place : ℕ) → place < r → place < length g → {t : Bool}
    → any_of (anticommutes (get_or g place identity)) (take place g) ≡ t
    → (refuse_if t (Refusal.GeneratorsAnticommute (first_generator_at + place) Family.Generator)
    then Left clash g r (place + 1) first_generator_at)
    ≡ Left clash g r place first_generator_at
unfolding clash
row-tried r g place few inside e =
    ap (λ t. refuse_if t (Refusal.GeneratorsAnticommute (first_generator_at + place) Family.Generator)
    then Left clash g r (place + 1) first_generator_at) (sym e)
    ∙ sym (fault-at clash g r place first_generator_at few inside)

pub loop-place-init : goal.loop-place-init
loop-place-init c = fault-start clash c.args.g c.args.r 0 first_generator_at refl

pub loop-earlier-init : goal.loop-earlier-init
loop-earlier-init c = tried-none _ _ _ (omega arith)

pub returns-then-not-commutes : goal.returns-then-not-commutes
unfolding refuse_if ◌then◌ anticommutes
returns-then-not-commutes c =
    let room : length c.args.g ≡ row_room = search rules in
    row-tried c.args.r c.args.g c.loop-place.place (omega arith) (omega arith)
    (tried-passes c.loop-earlier.invariant room c.loop-earlier-test.true
    (ap not (sym c.commutes.ensures ∙ c.if-not-commutes.true)))
    ∙ c.loop-place.invariant

pub loop-earlier-preserved : goal.loop-earlier-preserved
unfolding anticommutes
loop-earlier-preserved c =
    let room : length c.args.g ≡ row_room = search rules in
    tried-more c.loop-earlier.invariant room c.loop-earlier-test.true
    (ap not (sym c.commutes.ensures ∙ c.if-not-commutes.false))

pub loop-place-preserved : goal.loop-place-preserved
unfolding refuse_if ◌then◌
loop-place-preserved c =
    let room : length c.args.g ≡ row_room = search rules in
    row-tried c.args.r c.args.g c.loop-place.place (omega arith) (omega arith)
    (tried-all c.loop-earlier.invariant c.loop-earlier-test.false)
    ∙ c.loop-place.invariant

pub returns : goal.returns
returns c =
    let room : length c.args.g ≡ row_room = search rules in
    sym (fault-end clash c.args.g c.args.r c.loop-place.place first_generator_at
    (elim (dec_lt c.args.r row_room) [ yes few ↦ inl (omega arith) | no many ↦ inr (omega arith) ]))
    ∙ c.loop-place.invariant
