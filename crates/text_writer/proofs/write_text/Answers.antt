-- The call answers as `written` says: 17, or the text, as the test goes. Each turn lays the next byte.
use mathlib.Core.Path.{refl}
use Rattle.std.proofs.Common.{ℕ, List, length, set, get_or, ap, ◌∙◌, arith, rules}
use lib.Seq.{take_all}
use Rattle.sheet.specs.Text.{laid}
use Rattle.sheet.proofs.Laid.{laid-nothing, length_taken, byte-laid}
use Rattle.sheet.proofs.WrittenText.{answers-short, answers-whole}
use Rattle.text_writer.proofs.write_text.Goals as goal

pub returns-then-out-text : goal.returns-then-out-text
returns-then-out-text c =
    let a = c.args in
    let told = answers-short a.text.now a.out.now refl c.if-out-text.true in
    record { value = told.0; out_after = told.1 }

pub loop-place-init : goal.loop-place-init
loop-place-init c = laid-nothing c.args.out.now

pub bounds-out-place : goal.bounds-out-place
bounds-out-place c =
    let a = c.args in
    let l = c.loop-place in
    let size = ap length l.invariant ∙ length_taken a.text.now a.out.now c.if-out-text.false l.place (search rules) in
    omega (arith, size)

pub loop-place-preserved : goal.loop-place-preserved
loop-place-preserved c =
    let a = c.args in
    let l = c.loop-place in
    ap (λ (bytes : List ℕ). set bytes l.place (get_or a.text.now l.place 0)) l.invariant
    ∙ byte-laid a.text.now a.out.now c.if-out-text.false l.place 0 (search rules)

pub returns : goal.returns
returns c =
    let a = c.args in
    let l = c.loop-place in
    let told = answers-whole a.text.now a.out.now refl c.if-out-text.false refl
    (l.invariant ∙ ap (λ (text : List ℕ). laid text a.out.now) (take_all l.place a.text.now (search rules))) in
    record { value = told.0; out_after = told.1 }
