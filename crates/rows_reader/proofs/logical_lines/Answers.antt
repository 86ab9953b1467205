-- x, then z; each that is refused ends it.
use mathlib.Core.List.{List}
use mathlib.Core.Path.{◌≡◌, refl, ap, sym, subst, ◌∙◌}
use Prim.Native.Nat.{ℕ, ◌+◌, ◌-◌, ◌≤◌, min}
use native.Mathlib.Omega.{arith}
use lib.ListN.{length, take, drop, length-drop}
use Rattle.pauli.specs.declared.Pauli.{Pauli}
use Rattle.refusals.specs.declared.Refusal.{Refusal}
use Rattle.code_record.specs.Record.{row_room, most_qubits, pair_count}
use Rattle.sheet.specs.Reader.{Parsed, stop}
use Rattle.sheet.proofs.Parts.{tail_of}
use Rattle.row_reader.specs.Answers.{within_qubits}
use Rattle.row_reader.proofs.Answers.{few-qubits, many-qubits}
use Rattle.gathered_rows.specs.declared.Gathered.{Gathered}
use Rattle.gathered_rows.specs.InTurn.{gathered}
use Rattle.rows_reader.specs.Answers.{logicals_answer, pair_lines}
use Rattle.rows_reader.proofs.Gathers.{Gathers, gathers}
use Rattle.rows_reader.proofs.Counted.{logicals-short, logicals-all}
use Rattle.rows_reader.proofs.Answered.{logicals-none, x-refused, z-refused, pairs-given}
use Rattle.rows_reader.proofs.logical_lines.Goals as goal

module _ (s : List ℕ) (n r : ℕ) (few : n ≤ most_qubits) {k : ℕ} (paired : k ≡ pair_count n r) where
  few-pairs : k ≤ row_room
  unfolding pair_count
  few-pairs = omega (arith, paired)

  -- There is room for k rows.
  room : min k row_room ≡ k
  room = omega (arith, few-pairs)

  -- the definition, of no more qubits than a sheet may have
  within : (at : ℕ) {p : Parsed (List Pauli × List Pauli)} → pair_lines k n at s ≡ p
      → within_qubits n at (pair_lines (pair_count n r) n at) s ≡ p
  within at e =
      few-qubits n at (pair_lines (pair_count n r) n at) s few ∙ ap (λ m. pair_lines m n at s) (sym paired) ∙ e

  module _ {xs : Gathered} (told : xs ≡ gathered (min k row_room) "x=" n s) where
    x-gathered : Gathers s "x=" n k xs
    x-gathered = subst (Gathers s "x=" n k) (sym (told ∙ ap (λ m. gathered m "x=" n s) room)) (gathers "x=" n few k s)

    -- z stands behind x
    module _ {zs : Gathered}
        (z-told : zs ≡ gathered (min k row_room) "z=" n (take (length s - xs.end) (drop xs.end s))) where
      z-gathered : Gathers (drop xs.end s) "z=" n k zs
      z-gathered =
          subst (Gathers (drop xs.end s) "z=" n k)
          (sym (z-told ∙ (λ i. gathered (room i) "z=" n (tail_of xs.end s i))))
          (gathers "z=" n few k (drop xs.end s))

      both-within : xs.end + zs.end ≤ length s
      both-within = omega (arith, z-gathered.within, x-gathered.within, length-drop xs.end s)

pub returns-then-n-gt-MOST_QUBITS-clause-answers_logicals : goal.returns-then-n-gt-MOST_QUBITS-clause-answers_logicals
returns-then-n-gt-MOST_QUBITS-clause-answers_logicals c =
    λ at. let first : at ≡ at + 0 = omega arith in
    logicals-none c.args.s.now
    (many-qubits _ at _ _ c.if-n-gt-MOST_QUBITS.true
    ∙ ap (λ m. stop (Refusal.Form m)) first)

pub returns-then-xs-k-clause-answer_bound : goal.returns-then-xs-k-clause-answer_bound
returns-then-xs-k-clause-answer_bound c =
    let a = c.args in
    let few = c.if-n-gt-MOST_QUBITS.false in
    omega (arith, few-pairs a.s.now a.n a.r few c.pair_count-k.ensures)

pub returns-then-xs-k-clause-answers_logicals : goal.returns-then-xs-k-clause-answers_logicals
returns-then-xs-k-clause-answers_logicals c =
    let a = c.args in
    let s = a.s.now in
    let few = c.if-n-gt-MOST_QUBITS.false in
    let k = c.pair_count-k.result in
    let paired = c.pair_count-k.ensures in
    λ at. logicals-none s
    (within s a.n a.r few paired at
    (x-refused k a.n at s
    (logicals-short (x-gathered s a.n a.r few paired c.rows_up_to-xs.ensures) c.if-xs-k.true at)))

pub slice_bounds-rows_up_to-count : goal.slice_bounds-rows_up_to-count
slice_bounds-rows_up_to-count c =
    (x-gathered c.args.s.now c.args.n c.args.r c.if-n-gt-MOST_QUBITS.false c.pair_count-k.ensures
    c.rows_up_to-xs.ensures).within

pub slice_bounds-rows_up_to-start : goal.slice_bounds-rows_up_to-start
slice_bounds-rows_up_to-start c =
    (x-gathered c.args.s.now c.args.n c.args.r c.if-n-gt-MOST_QUBITS.false c.pair_count-k.ensures
    c.rows_up_to-xs.ensures).within

pub overflow_add-result : goal.overflow_add-result
overflow_add-result c =
    let a = c.args in
    let few = c.if-n-gt-MOST_QUBITS.false in
    omega (arith, few-pairs a.s.now a.n a.r few c.pair_count-k.ensures)

pub returns-then-zs-k-clause-answer_bound : goal.returns-then-zs-k-clause-answer_bound
returns-then-zs-k-clause-answer_bound c =
    let a = c.args in
    let few = c.if-n-gt-MOST_QUBITS.false in
    omega (arith, few-pairs a.s.now a.n a.r few c.pair_count-k.ensures)

pub returns-then-zs-k-clause-answers_logicals : goal.returns-then-zs-k-clause-answers_logicals
returns-then-zs-k-clause-answers_logicals c =
    let a = c.args in
    let s = a.s.now in
    let few = c.if-n-gt-MOST_QUBITS.false in
    let k = c.pair_count-k.result in
    let paired = c.pair_count-k.ensures in
    let x = x-gathered s a.n a.r few paired c.rows_up_to-xs.ensures in
    let z = z-gathered s a.n a.r few paired c.rows_up_to-xs.ensures c.rows_up_to-zs.ensures in
    λ at. let line : at + k + c.rows_up_to-zs.result.count ≡ at + (k + c.rows_up_to-zs.result.count) = omega arith in
    logicals-none s
    (within s a.n a.r few paired at
    (z-refused k a.n at s (logicals-all x c.if-xs-k.false at) (logicals-short z c.if-zs-k.true (at + k))
    ∙ ap (λ m. stop (Refusal.Form m)) line))

pub overflow_add-result-2 : goal.overflow_add-result-2
overflow_add-result-2 c =
    let a = c.args in
    omega (
      arith,
      both-within a.s.now a.n a.r c.if-n-gt-MOST_QUBITS.false c.pair_count-k.ensures c.rows_up_to-xs.ensures
          c.rows_up_to-zs.ensures,
    )

pub returns-clause-answers_logicals : goal.returns-clause-answers_logicals
returns-clause-answers_logicals c =
    let a = c.args in
    let s = a.s.now in
    let few = c.if-n-gt-MOST_QUBITS.false in
    let k = c.pair_count-k.result in
    let paired = c.pair_count-k.ensures in
    let x = x-gathered s a.n a.r few paired c.rows_up_to-xs.ensures in
    let z = z-gathered s a.n a.r few paired c.rows_up_to-xs.ensures c.rows_up_to-zs.ensures in
    λ at. pairs-given k a.n at s (logicals-all x c.if-xs-k.false at) (logicals-all z c.if-zs-k.false (at + k))
    (both-within s a.n a.r few paired c.rows_up_to-xs.ensures c.rows_up_to-zs.ensures)
    ∙ ap (logicals_answer s) (sym (within s a.n a.r few paired at refl))
