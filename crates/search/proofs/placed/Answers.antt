-- The masks of a letter and of the string behind it fit, also moved up by the letters before them.
use Rattle.std.proofs.Common.{ℕ, ◌+◌, ◌*◌, ◌^◌, ◌%◌, ap, ap₂, ◌∙◌, arith}
use Rattle.letters.specs.declared.Letter.{Letter}
use Rattle.letters.specs.Letters.{x_bit, z_bit}
use Rattle.pauli.proofs.Letters.{x_bit-lt, z_bit-lt}
use Rattle.letter_sums.specs.Sums.{masks_at}
use Rattle.letter_sums.proofs.Masks.{cons-fits, moved}
use Rattle.search.proofs.placed.Goals as goal

pub overflow_mul-result : goal.overflow_mul-result
overflow_mul-result c =
    let a = c.args in
    let h = c.requires in
    let half = cons-fits a.gap a.right h.right_bound 0 a.a (omega arith) h.a_bound in omega (arith, half)

pub overflow_add-result : goal.overflow_add-result
overflow_add-result c =
    let a = c.args in
    let h = c.requires in
    let whole = cons-fits a.gap a.right h.right_bound c.x_bit.result a.a
    (rw c.x_bit.ensures (x_bit-lt c.struck-l.result)) h.a_bound in
    omega (arith, whole)

pub overflow_mul-result-2 : goal.overflow_mul-result-2
overflow_mul-result-2 c =
    let a = c.args in
    let h = c.requires in
    let half = cons-fits a.gap a.right h.right_bound 0 a.b (omega arith) h.b_bound in omega (arith, half)

pub overflow_add-result-2 : goal.overflow_add-result-2
overflow_add-result-2 c =
    let a = c.args in
    let h = c.requires in
    let whole = cons-fits a.gap a.right h.right_bound c.z_bit.result a.b
    (rw c.z_bit.ensures (z_bit-lt c.struck-l.result)) h.b_bound in
    omega (arith, whole)

pub returns : goal.returns
returns c =
    let a = c.args in
    let h = c.requires in
    let l = c.struck-l.result in
    ap₂ masks_at
    (ap (λ (x : ℕ). (x + 2 * a.a) * 2 ^ a.gap % 2 ^ 32) c.x_bit.ensures
    ∙ moved a.gap a.right h.right_bound (x_bit l) a.a (x_bit-lt l) h.a_bound
    ∙ ap (λ (m : Letter). (x_bit m + 2 * a.a) * 2 ^ a.gap) c.struck-l.ensures)
    (ap (λ (x : ℕ). (x + 2 * a.b) * 2 ^ a.gap % 2 ^ 32) c.z_bit.ensures
    ∙ moved a.gap a.right h.right_bound (z_bit l) a.b (z_bit-lt l) h.b_bound
    ∙ ap (λ (m : Letter). (z_bit m + 2 * a.b) * 2 ^ a.gap) c.struck-l.ensures)
