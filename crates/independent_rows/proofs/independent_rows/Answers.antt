-- Each turn adds a row: the rows so far reduce it, what is left clears them, and those behind its place move up.
use mathlib.Core.Logic.{inl, inr}
use mathlib.Core.Path.{◌≡◌, refl, ap, sym, ◌∙◌}
use Prim.Native.Nat.{ℕ}
use native.Mathlib.Decide.{dec_lt}
use native.Mathlib.Omega.{arith}
use lib.ListN.{length, replicate}
use borrow.Author.Rules.{rules}
use Rattle.code_record.specs.Record.{row_room, filled}
use Rattle.reduced_rows.specs.Rows.{reduced_of}
use Rattle.reduced_rows.proofs.Rows.{value}
use Rattle.independent_rows.proofs.Placing.{clearing-more, moving-more, cleared-moving, placed}
use Rattle.independent_rows.proofs.Added.{reducing-none, reducing-more, reducing-end, added_none, added-count}
use Rattle.independent_rows.proofs.Added.{added-room, added-clearing, added-end, added-dependent, added-apart}
use Rattle.independent_rows.proofs.Added.{added_more}
use Rattle.independent_rows.proofs.independent_rows.Goals as goal
use Rattle.independent_rows.proofs.independent_rows.Goals.{
  else-loop-at-3-test,
  then-loop-at-3-test+then-pivot-first,
}

pub loop-place-init : goal.loop-place-init
unfolding reduced_of filled
loop-place-init c =
    added_none _ _ _ (ap (λ one. value c.args.n 0 (replicate row_room one)) c.identity-reduced.ensures)

-- ---- what is left of the next row

pub loop-at-init : goal.loop-at-init
loop-at-init c = reducing-none _ _ _ _ (omega arith)

pub loop-at-preserved : goal.loop-at-preserved
loop-at-preserved c =
    let added = c.loop-place.invariant in
    let left = c.loop-at.invariant in
    reducing-more left (added-count _ _ _ added) (added-room _ _ _ added left.few) c.loop-at-test.true
    c.cleared-left.ensures

pub returns-then-is_phase : goal.returns-then-is_phase
returns-then-is_phase c =
    let a = c.args in
    let added = c.loop-place.invariant in
    let left = c.loop-at.invariant in
    let room : length a.rows ≡ row_room = search rules in
    added-dependent a.n a.rows a.count added room (omega arith) left.few
    (reducing-end left (added-count _ _ _ added) c.loop-at-test.false) (sym c.is_phase.ensures ∙ c.if-is_phase.true)

-- ---- its place

pub loop-at-2-init : goal.loop-at-2-init
loop-at-2-init c = added-clearing _ _ _ c.loop-place.invariant c.modulo4-left.result c.loop-at.invariant.few

pub loop-at-2-preserved : goal.loop-at-2-preserved
loop-at-2-preserved c = clearing-more _ _ _ _ c.loop-at-2.invariant c.loop-at-2-test.true c.cleared.ensures

pub loop-at-3-init : goal.loop-at-3-init
loop-at-3-init c = cleared-moving c.loop-at-2.invariant c.loop-at-2-test.false

pub loop-at-3-preserved : goal.loop-at-3-preserved
loop-at-3-preserved c =
    moving-more _ _ _ _ c.loop-at-3.invariant c.loop-at-3-test.true c.pivot-first.ensures c.pivot.ensures
    c.if-pivot-first.false

pub loop-place-preserved : goal.loop-place-preserved
loop-place-preserved c =
    let a = c.args in
    let added = c.loop-place.invariant in
    let left = c.loop-at.invariant in
    let room : length a.rows ≡ row_room = search rules in
    let rest = reducing-end left (added-count _ _ _ added) c.loop-at-test.false in
    added_more a.n a.rows a.count added room (omega arith) left.few rest
    (sym c.is_phase.ensures ∙ c.if-is_phase.false) c.modulo4-left.ensures refl
    (placed c.loop-at-2.invariant c.loop-at-2-test.false c.loop-at-3.invariant
    (added-apart a.n a.rows a.count added room (omega arith) left.few rest c.modulo4-left.ensures)
    (λ some. elim c.loop-at-3-test.branch [
      | else-loop-at-3-test w ↦ absurd (omega (arith, w.loop-at-3-test.false))
      | then-loop-at-3-test+then-pivot-first w ↦
          omega (arith, w.if-pivot-first.true, w.pivot.ensures, c.pivot-first.ensures)
    ]))

pub returns : goal.returns
returns c =
    let a = c.args in
    let place = c.loop-place.place in
    let room : length a.rows ≡ row_room = search rules in
    let all : c.min-used.result ≡ place = omega (arith, c.loop-place.auto.place-end, c.loop-place-test.false) in
    ap (λ (count : ℕ). value a.n count c.loop-place.reduced) all
    ∙ added-end _ _ _ c.loop-place.invariant
    (elim (dec_lt a.count row_room) [ yes few ↦ inl (omega arith) | no many ↦ inr (omega arith) ])
