-- Each turn reads one line; what was read stands before what the rest gives.
use Rattle.std.specs.Prelude.{Some}
use mathlib.Core.Path.{◌≡◌, ap, sym, ◌∙◌}
use Prim.Native.Nat.{◌+◌, ◌≤◌}
use native.Mathlib.Nat.{lt_of_le_of_lt}
use native.Mathlib.Omega.{arith}
use borrow.Author.Rules.{rules}
use lib.ListN.{length, drop}
use Rattle.sheet.proofs.Parts.{tail_of}
use Rattle.syndrome_lines.specs.SyndromeLines.{mask_line}
use Rattle.syndrome_lines.proofs.Lines.{mask-few, line-within}
use Rattle.syndrome_lines.proofs.Lines.{checked-none, checked-more, checked-off, checked-all}
use Rattle.syndrome_lines.proofs.check_syndromes.Goals as goal

pub loop-end-init : goal.loop-end-init
loop-end-init c = checked-none c.args.r c.args.s.now

pub returns-in_default : goal.returns-in_default
returns-in_default c =
    let e = c.loop-end.end in
    let s = c.args.s.now in
    let line : mask_line c.args.r (drop e s) ≡ c.read_syndrome_line.result =
    sym (c.read_syndrome_line.ensures ∙ ap (mask_line c.args.r) (tail_of e s)) in
    checked-off c.args.r s c.loop-end.invariant (search rules) (line ∙ c.in_default.is)

pub overflow_add-end : goal.overflow_add-end
overflow_add-end c =
    let e = c.loop-end.end in
    let s = c.args.s.now in
    let line : mask_line c.args.r (drop e s) ≡ c.read_syndrome_line.result =
    sym (c.read_syndrome_line.ensures ∙ ap (mask_line c.args.r) (tail_of e s)) in
    let read : mask_line c.args.r (drop e s) ≡ Some c.in-Some.field-0 = line ∙ c.in-Some.is in
    omega (arith, mask-few c.args.r _ read)

pub overflow_add-end-in-loop-end : goal.overflow_add-end-in-loop-end
overflow_add-end-in-loop-end c =
    let e = c.loop-end.end in
    let s = c.args.s.now in
    let line : mask_line c.args.r (drop e s) ≡ c.read_syndrome_line.result =
    sym (c.read_syndrome_line.ensures ∙ ap (mask_line c.args.r) (tail_of e s)) in
    let read : mask_line c.args.r (drop e s) ≡ Some c.in-Some.field-0 = line ∙ c.in-Some.is in
    let within : e + (c.args.r + 3) ≤ length s = line-within c.args.r s c.loop-end.invariant read in
    record { fits = lt_of_le_of_lt within c.well_formed.0.0 }

pub overflow_add-count : goal.overflow_add-count
overflow_add-count c =
    let e = c.loop-end.end in
    let s = c.args.s.now in
    let line : mask_line c.args.r (drop e s) ≡ c.read_syndrome_line.result =
    sym (c.read_syndrome_line.ensures ∙ ap (mask_line c.args.r) (tail_of e s)) in
    let read : mask_line c.args.r (drop e s) ≡ Some c.in-Some.field-0 = line ∙ c.in-Some.is in
    let within : e + (c.args.r + 3) ≤ length s = line-within c.args.r s c.loop-end.invariant read in
    let fewer : c.loop-end.count + 1 ≤ length s = omega (arith, within, c.loop-end.invariant.few) in
    record { fits = lt_of_le_of_lt fewer c.well_formed.0.0 }

pub loop-end-smaller : goal.loop-end-smaller
loop-end-smaller c =
    let e = c.loop-end.end in
    let s = c.args.s.now in
    let line : mask_line c.args.r (drop e s) ≡ c.read_syndrome_line.result =
    sym (c.read_syndrome_line.ensures ∙ ap (mask_line c.args.r) (tail_of e s)) in
    let read : mask_line c.args.r (drop e s) ≡ Some c.in-Some.field-0 = line ∙ c.in-Some.is in
    let within : e + (c.args.r + 3) ≤ length s = line-within c.args.r s c.loop-end.invariant read in
    omega (arith, within)

pub loop-end-preserved : goal.loop-end-preserved
loop-end-preserved c =
    let e = c.loop-end.end in
    let s = c.args.s.now in
    let line : mask_line c.args.r (drop e s) ≡ c.read_syndrome_line.result =
    sym (c.read_syndrome_line.ensures ∙ ap (mask_line c.args.r) (tail_of e s)) in
    let read : mask_line c.args.r (drop e s) ≡ Some c.in-Some.field-0 = line ∙ c.in-Some.is in
    checked-more c.args.r s c.loop-end.invariant read

pub returns : goal.returns
returns c = checked-all c.args.r c.args.s.now c.loop-end.invariant (search rules)
