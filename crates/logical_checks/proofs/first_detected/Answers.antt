-- 9 is found at the first logical that anticommutes with a generator: the logicals are tried in turn, each with the
-- generators in turn.
use mathlib.Core.Bool.{not}
use mathlib.Core.Path.{◌≡◌, ap, sym, ◌∙◌}
use Prim.Native.Nat.{◌*◌}
use native.Mathlib.Omega.{arith}
use Rattle.pauli.specs.Product.{anticommutes}
use Rattle.code_record.specs.Record.{generators}
use Rattle.refusals.specs.declared.Refusal.TheVariants.{LogicalAnticommutes}
use Rattle.code_record.proofs.ArrayLengths.{sized_of}
use Rattle.logical_pairs.specs.FaultAt.{fault_at}
use Rattle.commutation.proofs.AnyRow.{tried-none, tried-all, tried-passes, tried-more}
use Rattle.logical_pairs.proofs.LogicalPlaces.{x-at, z-at}
use Rattle.logical_checks.proofs.Detected.{within, nine-first, nine-found, nine-passed, nine-end}
use Rattle.logical_checks.proofs.first_detected.Goals as goal
use Rattle.logical_checks.proofs.first_detected.Goals.{then-place-pairs, else-place-pairs}

pub overflow_mul-place-end : goal.overflow_mul-place-end
overflow_mul-place-end c =
    let code = c.args.code in
    let w = within code (sized_of code c.well_formed.0) c.requires c.pair_count-pairs.ensures in
    record { fits = omega (arith, w.few) }

pub loop-place-init : goal.loop-place-init
loop-place-init c =
    let code = c.args.code in
    let w = within code (sized_of code c.well_formed.0) c.requires c.pair_count-pairs.ensures in
    (w, nine-first w.known)

pub loop-row-init : goal.loop-row-init
loop-row-init c =
    let place = c.loop-place.place in
    let inside = c.loop-place-test.true in
    let w = c.loop-place.invariant.0 in
    let k = w.known in (
      w,
      record {
        known = k;
        within = inside;
        row = elim c.if-place-pairs.branch [
          | then-place-pairs w ↦ w.p-is ∙ x-at k place w.if-place-pairs.true
          | else-place-pairs w ↦ w.p-is ∙ z-at k place w.if-place-pairs.false inside
        ];
      },
      tried-none _ c.args.code.g _ (omega (arith, w.few_rows (omega (arith, inside)))),
    )

pub returns-then-not-commutes : goal.returns-then-not-commutes
unfolding generators anticommutes
returns-then-not-commutes c =
    let inv = c.loop-row.invariant in
    nine-found inv.1
    (sym (tried-passes inv.2 inv.0.known.sized.room_g c.loop-row-test.true
    (ap not (sym c.commutes.ensures ∙ c.if-not-commutes.true))))
    c.loop-place.invariant.1

pub loop-row-preserved : goal.loop-row-preserved
unfolding anticommutes
loop-row-preserved c =
    let inv = c.loop-row.invariant in (
      inv.0,
      inv.1,
      tried-more inv.2 inv.0.known.sized.room_g c.loop-row-test.true
          (ap not (sym c.commutes.ensures ∙ c.if-not-commutes.false)),
    )

pub loop-place-preserved : goal.loop-place-preserved
unfolding generators
loop-place-preserved c =
    let inv = c.loop-row.invariant in
    (inv.0, nine-passed inv.1 (sym (tried-all inv.2 c.loop-row-test.false)) c.loop-place.invariant.1)

pub returns : goal.returns
returns c =
    let code = c.args.code in
    let place = c.loop-place.place in
    let end : 2 * c.pair_count-pairs.result ≡ place =
    omega (arith, c.loop-place.auto.place-end, c.loop-place-test.false) in
    ap (fault_at LogicalAnticommutes code) end
    ∙ nine-end c.loop-place.invariant.0.known place c.loop-place-test.false c.loop-place.invariant.1
