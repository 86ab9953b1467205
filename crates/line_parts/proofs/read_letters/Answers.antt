-- The letters are read from the last to the first; a byte that is none ends it.
use mathlib.Core.Path.{refl, ap, sym, subst, ◌∙◌}
use native.Mathlib.Omega.{arith}
use Rattle.code_record.specs.Record.{most_qubits}
use Rattle.std.specs.Prelude.{Some}
use Rattle.sheet.specs.Reader.{read_letters}
use Rattle.line_parts.proofs.Values.{Behind, few_bytes, many-bytes, behind_none, behind-small, behind_all, behind_more}
use Rattle.line_parts.proofs.Values.{behind-no-letter}
use Rattle.line_parts.proofs.read_letters.Goals as goal

pub returns-then-word-gt-MOST_QUBITS : goal.returns-then-word-gt-MOST_QUBITS
returns-then-word-gt-MOST_QUBITS c = sym (many-bytes most_qubits read_letters _ c.if-word-gt-MOST_QUBITS.true)

pub loop-c-init : goal.loop-c-init
loop-c-init c =
    let word = c.args.word.now in
    let whole = ap (λ i. i.iter.rest.now) c.into_iter-c-iterator.ensures.into_iter_gives
    ∙ ap (λ i. i.rest.now) c.rev-c-items.ensures.source ∙ c.iter.ensures.rest in
    subst (λ left. Behind word left 0 0) (sym whole) (behind_none word)

pub returns-then-not-is_letter : goal.returns-then-not-is_letter
returns-then-not-is_letter c =
    sym
    (few_bytes most_qubits read_letters c.args.word.now c.if-word-gt-MOST_QUBITS.false
    ∙ behind-no-letter c.loop-c.invariant _ _ c.in-Some.ensures.steps (sym c.if-not-is_letter.ensures))

pub overflow_mul-a : goal.overflow_mul-a
overflow_mul-a c = omega (arith, behind-small c.loop-c.invariant c.if-word-gt-MOST_QUBITS.false)

pub overflow_add-a : goal.overflow_add-a
overflow_add-a c =
    let more = behind_more c.loop-c.invariant _ _ c.in-Some.ensures.steps (sym c.if-not-is_letter.ensures)
    c.x_bit.ensures refl in
    omega (arith, behind-small more c.if-word-gt-MOST_QUBITS.false)

pub overflow_mul-b : goal.overflow_mul-b
overflow_mul-b c = omega (arith, behind-small c.loop-c.invariant c.if-word-gt-MOST_QUBITS.false)

pub overflow_add-b : goal.overflow_add-b
overflow_add-b c =
    let more = behind_more c.loop-c.invariant _ _ c.in-Some.ensures.steps (sym c.if-not-is_letter.ensures)
    c.x_bit.ensures c.z_bit.ensures in
    omega (arith, behind-small more c.if-word-gt-MOST_QUBITS.false)

pub loop-c-preserved : goal.loop-c-preserved
loop-c-preserved c =
    behind_more c.loop-c.invariant _ _ c.in-Some.ensures.steps (sym c.if-not-is_letter.ensures) c.x_bit.ensures
    c.z_bit.ensures

pub returns : goal.returns
returns c =
    let word = c.args.word.now in
    ap Some c.signed.ensures ∙ sym (behind_all c.loop-c.invariant c.in-None.ensures.steps.0)
    ∙ sym (few_bytes most_qubits read_letters word c.if-word-gt-MOST_QUBITS.false)
