-- Each turn reads a syndrome and lays the line of its correction behind those that are there.
use mathlib.Core.List.{List}
use mathlib.Core.Path.{◌≡◌, ap, sym, ◌∙◌}
use Prim.Native.Nat.{ℕ, ◌≤◌}
use native.Mathlib.Nat.{lt_of_le_of_lt}
use native.Mathlib.Omega.{arith}
use lib.ListN.{length}
use borrow.Author.Rules.{rules}
use Rattle.sheet.specs.Text.{laid}
use Rattle.sheet.proofs.Laid.{lent}
use Rattle.sheet.proofs.Parts.{tail_of}
use Rattle.sheet.proofs.WrittenText.{count-is, content-is}
use Rattle.syndrome_lines.specs.SyndromeLines.{mask_line}
use Rattle.syndrome_lines.proofs.Lines.{mask-few}
use Rattle.correction_writer.specs.Lines.{correction_text}
use Rattle.correction_writer.proofs.Lines.{correction-has-room}
use Rattle.correction_lines.proofs.Lines.{line_for, line-within}
use Rattle.corrections_writer.proofs.Answered.{answered-none, answered-off, answered-all}
use Rattle.corrections_writer.proofs.Answered.{next-room, next_fits, answered-more}
use Rattle.corrections_writer.proofs.correction_lines.Goals as goal

-- Each answer reads the line at the place as `told`. Its correction's line has `room`, and is as long as `counted`
-- says.
pub loop-place-init : goal.loop-place-init
loop-place-init c = let a = c.args in answered-none a.words.now a.t a.r a.syndromes.now a.out.now

pub returns-in_default-clause-value : goal.returns-in_default-clause-value
returns-in_default-clause-value c =
    let a = c.args in
    let l = c.loop-place in
    let told = sym (c.read_syndrome_line.ensures ∙ ap (mask_line a.r) (tail_of l.place a.syndromes.now)) in
    (answered-off a.words.now a.t a.r a.syndromes.now a.out.now l.invariant (told ∙ c.in_default.is)).0

pub returns-in_default-clause-out_after : goal.returns-in_default-clause-out_after
returns-in_default-clause-out_after c =
    let a = c.args in
    let l = c.loop-place in
    let told = sym (c.read_syndrome_line.ensures ∙ ap (mask_line a.r) (tail_of l.place a.syndromes.now)) in
    (answered-off a.words.now a.t a.r a.syndromes.now a.out.now l.invariant (told ∙ c.in_default.is)).1

pub slice_bounds-write_correction-end : goal.slice_bounds-write_correction-end
slice_bounds-write_correction-end c =
    let a = c.args in
    let l = c.loop-place in
    let told = sym (c.read_syndrome_line.ensures ∙ ap (mask_line a.r) (tail_of l.place a.syndromes.now))
    ∙ c.in-Some.is in
    let room = next-room a.words.now a.t a.r a.syndromes.now a.out.now l.invariant told
    c.requires.syndromes_in_bounds in
    omega (arith, room, l.invariant.held.size)

pub slice_bounds-write_correction-start : goal.slice_bounds-write_correction-start
slice_bounds-write_correction-start c =
    let a = c.args in
    let l = c.loop-place in
    let told = sym (c.read_syndrome_line.ensures ∙ ap (mask_line a.r) (tail_of l.place a.syndromes.now))
    ∙ c.in-Some.is in
    let room = next-room a.words.now a.t a.r a.syndromes.now a.out.now l.invariant told
    c.requires.syndromes_in_bounds in
    let inside : l.end ≤ length l.out = omega (arith, room, l.invariant.held.size) in inside

pub overflow_add-end : goal.overflow_add-end
overflow_add-end c =
    let a = c.args in
    let l = c.loop-place in
    let told = sym (c.read_syndrome_line.ensures ∙ ap (mask_line a.r) (tail_of l.place a.syndromes.now))
    ∙ c.in-Some.is in
    let room = next-room a.words.now a.t a.r a.syndromes.now a.out.now l.invariant told
    c.requires.syndromes_in_bounds in
    let line-text : List ℕ = correction_text a.words.now.qubits c.correct_by-correction.result in
    let part : List ℕ = lent l.end l.out in
    let same_line : line-text ≡ line_for a.words.now a.t a.r c.in-Some.syndrome =
    ap (correction_text a.words.now.qubits) c.correct_by-correction.ensures in
    let fits = next_fits a.words.now a.t a.r a.syndromes.now a.out.now l.invariant told
    c.requires.syndromes_in_bounds in
    let whole = correction-has-room a.words.now.qubits c.requires.le_qubits c.requires.qubits_le_most_qubits
    c.correct_by-correction.result part (omega (arith, ap length same_line, fits)) in
    let counted = count-is line-text part whole c.write_correction.ensures.value c.bytes_written-end.ensures
    ∙ ap length same_line in
    record { fits = omega (arith, room, counted, c.well_formed) }

pub overflow_add-place : goal.overflow_add-place
overflow_add-place c =
    let a = c.args in
    let l = c.loop-place in
    let told = sym (c.read_syndrome_line.ensures ∙ ap (mask_line a.r) (tail_of l.place a.syndromes.now))
    ∙ c.in-Some.is in
    record { fits = omega (arith, mask-few a.r _ told) }

pub overflow_add-place-in-loop-place : goal.overflow_add-place-in-loop-place
overflow_add-place-in-loop-place c =
    let a = c.args in
    let l = c.loop-place in
    let told = sym (c.read_syndrome_line.ensures ∙ ap (mask_line a.r) (tail_of l.place a.syndromes.now))
    ∙ c.in-Some.is in
    record {
      fits = lt_of_le_of_lt (line-within a.words.now a.t a.r a.syndromes.now l.invariant.passed told) (search rules);
    }

pub loop-place-smaller : goal.loop-place-smaller
loop-place-smaller c =
    let a = c.args in
    let l = c.loop-place in
    let told = sym (c.read_syndrome_line.ensures ∙ ap (mask_line a.r) (tail_of l.place a.syndromes.now))
    ∙ c.in-Some.is in
    omega (arith, line-within a.words.now a.t a.r a.syndromes.now l.invariant.passed told)

pub loop-place-preserved : goal.loop-place-preserved
loop-place-preserved c =
    let a = c.args in
    let l = c.loop-place in
    let told = sym (c.read_syndrome_line.ensures ∙ ap (mask_line a.r) (tail_of l.place a.syndromes.now))
    ∙ c.in-Some.is in
    let line-text : List ℕ = correction_text a.words.now.qubits c.correct_by-correction.result in
    let part : List ℕ = lent l.end l.out in
    let same_line : line-text ≡ line_for a.words.now a.t a.r c.in-Some.syndrome =
    ap (correction_text a.words.now.qubits) c.correct_by-correction.ensures in
    let fits = next_fits a.words.now a.t a.r a.syndromes.now a.out.now l.invariant told
    c.requires.syndromes_in_bounds in
    let whole = correction-has-room a.words.now.qubits c.requires.le_qubits c.requires.qubits_le_most_qubits
    c.correct_by-correction.result part (omega (arith, ap length same_line, fits)) in
    let counted = count-is line-text part whole c.write_correction.ensures.value c.bytes_written-end.ensures
    ∙ ap length same_line in
    answered-more a.words.now a.t a.r a.syndromes.now a.out.now l.invariant told c.requires.syndromes_in_bounds counted
    (content-is line-text part whole c.write_correction.ensures.out_after ∙ ap (λ (t : List ℕ). laid t part) same_line)
    c.write_correction.auto.out

pub returns-clause-value : goal.returns-clause-value
returns-clause-value c =
    let a = c.args in
    let l = c.loop-place in
    (answered-all a.words.now a.t a.r a.syndromes.now a.out.now l.invariant (search rules)).0

pub returns-clause-out_after : goal.returns-clause-out_after
returns-clause-out_after c =
    let a = c.args in
    let l = c.loop-place in
    (answered-all a.words.now a.t a.r a.syndromes.now a.out.now l.invariant (search rules)).1
