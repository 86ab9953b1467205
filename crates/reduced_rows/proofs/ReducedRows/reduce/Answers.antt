-- Each row clears what is left, and behind the last row nothing more is cleared.
use mathlib.Core.Logic.{inl, inr}
use mathlib.Core.Path.{refl, ap, sym, ◌∙◌}
use Prim.Native.Nat.{◌+◌}
use native.Mathlib.Decide.{dec_lt}
use native.Mathlib.Omega.{arith}
use lib.ListN.{drop}
use Rattle.code_record.specs.Record.{row_room}
use Rattle.stabilizer.specs.Canonical.{reduced}
use Rattle.reduced_rows.specs.Rows.{rows_in}
use Rattle.reduced_rows.proofs.Rows.{reduced-at, reduced-end}
use Rattle.reduced_rows.proofs.ArrayLength.{room_of}
use Rattle.reduced_rows.proofs.ReducedRows.reduce.Goals as goal

pub loop-place-init : goal.loop-place-init
loop-place-init c = refl

pub loop-place-preserved : goal.loop-place-preserved
loop-place-preserved c =
    let hs = c.args.self in
    let loop = c.loop-place in
    ap (reduced hs.n (drop (loop.place + 1) (rows_in hs))) c.cleared-left.ensures
    ∙ sym (reduced-at hs loop.place hs.n loop.left (omega arith) (omega (arith, room_of hs c.well_formed.0)))
    ∙ loop.invariant

pub returns : goal.returns
returns c =
    let hs = c.args.self in
    let room = room_of hs c.well_formed.0 in
    reduced-end hs c.loop-place.place hs.n c.loop-place.left
    (elim (dec_lt hs.count row_room) [ yes few ↦ inl (omega arith) | no many ↦ inr (omega arith) ])
    ∙ c.loop-place.invariant
