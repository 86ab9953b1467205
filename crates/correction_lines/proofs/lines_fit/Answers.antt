-- Behind each line the room that is left is known, and the lines that were passed stand before those of the rest.
use Rattle.pauli.specs.declared.Pauli.{Pauli}
use Rattle.std.specs.Prelude.{Option}
use mathlib.Core.Path.{ap, sym, subst, ◌∙◌}
use Prim.Native.Nat.{ℕ, ◌+◌, ◌-◌}
use native.Mathlib.Nat.{lt_of_le_of_lt}
use native.Mathlib.Omega.{arith}
use lib.ListN.{length}
use borrow.Author.Rules.{rules}
use Rattle.sheet.proofs.Parts.{tail_of}
use Rattle.syndrome_lines.specs.SyndromeLines.{mask_line}
use Rattle.syndrome_lines.proofs.Lines.{mask-few}
use Rattle.correction_writer.specs.Lines.{correction_text}
use Rattle.correction_lines.proofs.Fits.{Left, left-all, left-more, fit-off, fit_all, no-fit}
use Rattle.correction_lines.proofs.Lines.{line-within}
use Rattle.correction_lines.proofs.lines_fit.Goals as goal

-- Each answer reads the line at the place as `told`, and knows the length of its correction's line as `counted`.
pub loop-place-init : goal.loop-place-init
loop-place-init c = let a = c.args in left-all a.words.now a.t a.r a.syndromes.now a.room

pub returns-in_default : goal.returns-in_default
returns-in_default c =
    let a = c.args in
    let told = sym (c.read_syndrome_line.ensures ∙ ap (mask_line a.r) (tail_of c.loop-place.place a.syndromes.now)) in
    fit-off a.words.now a.t a.r a.syndromes.now a.room c.loop-place.invariant (told ∙ c.in_default.is)

pub returns-then-left-length : goal.returns-then-left-length
returns-then-left-length c =
    let a = c.args in
    let told = sym (c.read_syndrome_line.ensures ∙ ap (mask_line a.r) (tail_of c.loop-place.place a.syndromes.now))
    ∙ c.in-Some.is in
    let counted = c.line_length-length.ensures
    ∙ ap (λ (k : Option Pauli). length (correction_text a.words.now.qubits k)) c.correct_by.ensures in
    no-fit a.words.now a.t a.r a.syndromes.now a.room c.loop-place.invariant told
    (omega (arith, c.if-left-length.true, counted))

pub overflow_add-place : goal.overflow_add-place
overflow_add-place c =
    let a = c.args in
    let told = sym (c.read_syndrome_line.ensures ∙ ap (mask_line a.r) (tail_of c.loop-place.place a.syndromes.now))
    ∙ c.in-Some.is in
    omega (arith, mask-few a.r _ told)

pub overflow_add-place-in-loop-place : goal.overflow_add-place-in-loop-place
overflow_add-place-in-loop-place c =
    let a = c.args in
    let told = sym (c.read_syndrome_line.ensures ∙ ap (mask_line a.r) (tail_of c.loop-place.place a.syndromes.now))
    ∙ c.in-Some.is in
    let within = line-within a.words.now a.t a.r a.syndromes.now c.loop-place.invariant.passed told in
    record { fits = lt_of_le_of_lt within (search rules) }

pub loop-place-smaller : goal.loop-place-smaller
loop-place-smaller c =
    let a = c.args in
    let told = sym (c.read_syndrome_line.ensures ∙ ap (mask_line a.r) (tail_of c.loop-place.place a.syndromes.now))
    ∙ c.in-Some.is in
    let within = line-within a.words.now a.t a.r a.syndromes.now c.loop-place.invariant.passed told in
    omega (arith, within)

pub loop-place-preserved : goal.loop-place-preserved
loop-place-preserved c =
    let a = c.args in
    let l = c.loop-place in
    let told = sym (c.read_syndrome_line.ensures ∙ ap (mask_line a.r) (tail_of c.loop-place.place a.syndromes.now))
    ∙ c.in-Some.is in
    let counted = c.line_length-length.ensures
    ∙ ap (λ (k : Option Pauli). length (correction_text a.words.now.qubits k)) c.correct_by.ensures in
    subst (λ (length : ℕ). Left a.words.now a.t a.r a.syndromes.now a.room (l.place + (a.r + 3)) (l.left - length))
    (sym counted)
    (left-more a.words.now a.t a.r a.syndromes.now a.room l.invariant told
    (omega (arith, c.if-left-length.false, counted)))

pub returns : goal.returns
returns c =
    let a = c.args in fit_all a.words.now a.t a.r a.syndromes.now a.room c.loop-place.invariant (search rules)
