-- Each turn reads one line; what was read stands before what the rest gives.
use Rattle.std.specs.Prelude.{Option, Some}
use mathlib.Core.List.{List}
use mathlib.Core.Path.{◌≡◌, ap, sym, subst, ◌∙◌}
use Prim.Native.Nat.{ℕ, ◌+◌, ◌-◌, ◌≤◌, min}
use native.Mathlib.Omega.{arith}
use lib.ListN.{length, take, drop, replicate, length-drop}
use Rattle.refusals.specs.declared.Family.{Family}
use Rattle.refusals.specs.Families.{row_key}
use Rattle.code_record.specs.Record.{row_room}
use Rattle.sheet.specs.Reader.{row_line}
use Rattle.sheet.proofs.Parts.{tail_of}
use Rattle.row_reader.specs.declared.RowRead.{RowRead}
use Rattle.row_reader.specs.Answers.{bytes_of, row_at, within_qubits, AnswersRow}
use Rattle.gathered_rows.proofs.Turns.{Turned, turned_none, turned_more, turned-end, turn-none, turn-full}
use Rattle.gathered_rows.proofs.rows_up_to.Goals as goal

-- What the next line was read as, of the bytes that are left.
abbrev Answers : List ℕ → Family → ℕ → Option RowRead → Type 0
Answers s family n r = AnswersRow s r (λ at. within_qubits n at (row_line (row_key family) n at))

answers : (s : List ℕ) (family : Family) (n end : ℕ) {r : Option RowRead}
    → Answers (take (length s - end) (drop end s)) family n r → Answers (drop end s) family n r
answers s family n end {r} h = subst (λ t. Answers t family n r) (tail_of end s) h

within : (s : List ℕ) (family : Family) (n end : ℕ) {r : Option RowRead} {read : RowRead} → end ≤ length s
    → Answers (drop end s) family n r → r ≡ Some read → end + read.used ≤ length s
within s family n end inside h e =
    omega (arith, subst (λ r. bytes_of r ≤ length (drop end s)) e h.within, length-drop end s)

pub loop-count-init : goal.loop-count-init
loop-count-init c =
    let a = c.args in
    subst (λ one. Turned (min a.most row_room) (row_key a.family) a.n a.s.now (replicate row_room one) 0 0)
    (sym c.identity-rows.ensures)
    (turned_none (min a.most row_room) (row_key a.family) a.n a.s.now)

pub returns-in_default : goal.returns-in_default
returns-in_default c =
    let a = c.args in
    let end = c.loop-count.end in
    let h = answers a.s.now a.family a.n end c.row_line.ensures in
    turned-end _ _ _ a.s.now c.loop-count.invariant
    (turn-none _ _ _ (drop end a.s.now) (sym (h.gives 0) ∙ ap (row_at 0 (drop end a.s.now)) c.in_default.is))

pub overflow_add-end : goal.overflow_add-end
overflow_add-end c =
    let a = c.args in
    let end = c.loop-count.end in
    let inside = within a.s.now a.family a.n end c.loop-count.invariant.within
    (answers a.s.now a.family a.n end c.row_line.ensures) c.in-Some.is in
    omega (arith, inside)

pub loop-count-preserved : goal.loop-count-preserved
loop-count-preserved c =
    let a = c.args in
    let end = c.loop-count.end in
    let h = answers a.s.now a.family a.n end c.row_line.ensures in
    turned_more _ _ _ a.s.now c.loop-count.invariant _ _ (omega arith) (omega arith)
    (within a.s.now a.family a.n end c.loop-count.invariant.within h c.in-Some.is)
    (sym (h.gives 0) ∙ ap (row_at 0 (drop end a.s.now)) c.in-Some.is)

pub returns : goal.returns
returns c =
    let a = c.args in
    let read = c.loop-count in
    let all : read.count ≡ c.min-most.result = omega arith in
    ap (λ count. record { end = read.end; count = count; rows = read.rows }) (sym all)
    ∙ turned-end _ _ _ a.s.now read.invariant (turn-full _ _ _ read.count (drop read.end a.s.now) (omega arith))
