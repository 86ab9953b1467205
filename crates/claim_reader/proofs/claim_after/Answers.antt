-- There is no such byte; or the line is off its form; or w is read, and the record holds all.
use Rattle.std.specs.Prelude.{Option}
use mathlib.Core.List.{List}
use mathlib.Core.Path.{refl, subst}
use Prim.Native.Nat.{ℕ, ◌-◌}
use lib.ListN.{length, take, drop}
use Rattle.sheet.specs.Reader.{claim_line}
use Rattle.sheet.proofs.Parts.{tail_of}
use Rattle.sheet.proofs.Answered.{sheet-refused, sheet-read}
use Rattle.row_reader.specs.declared.RowRead.{RowRead}
use Rattle.row_reader.specs.Answers.{within_qubits, AnswersRow}
use Rattle.claim_reader.proofs.Claims.{no-claim, claim-refused, claim-within, claim-read}
use Rattle.claim_reader.proofs.claim_after.Goals as goal

-- What the line was read as.
abbrev Answers : List ℕ → ℕ → Option RowRead → Type 0
Answers s n r = AnswersRow s r (λ at. within_qubits n at (claim_line n at))

answers : (s : List ℕ) (from n : ℕ) {r : Option RowRead} → Answers (take (length s - from) (drop from s)) n r
    → Answers (drop from s) n r
answers s from n {r} h = subst (λ t. Answers t n r) (tail_of from s) h

pub returns-then-s-from : goal.returns-then-s-from
returns-then-s-from c =
    let a = c.args in
    sheet-refused _ c.off_form.ensures refl
    (no-claim a.from a.n a.d a.at a.generators a.logicals a.s.now c.if-s-from.true)

pub returns-in_default : goal.returns-in_default
returns-in_default c =
    let a = c.args in
    sheet-refused _ c.off_form-in_default.ensures refl
    (claim-refused a.from a.n a.d a.at a.generators a.logicals a.s.now c.if-s-from.false
    (answers a.s.now a.from a.n c.claim_line.ensures) c.in_default.is)

pub returns : goal.returns
returns c =
    let a = c.args in
    let h = answers a.s.now a.from a.n c.claim_line.ensures in
    sheet-read _
    (claim-within a.from a.n a.d a.at a.generators a.logicals a.s.now c.if-s-from.false h c.in-Some.is)
    (claim-read a.from a.n a.d a.at a.generators a.logicals a.s.now c.if-s-from.false h c.in-Some.is)
