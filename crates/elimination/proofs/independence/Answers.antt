-- The rows of the elimination are the canonical generators where there is no fault, and are taken away where there is
-- one.
use Rattle.std.specs.Prelude.{Option, Result, Ok, Err}
use Rattle.std.specs.Result.{result_err, is_err}
use mathlib.Core.Bool.{true, false, false≢true}
use mathlib.Core.List.{List, []}
use mathlib.Core.Path.{◌≡◌, refl, ap, sym, ◌∙◌}
use Prim.Native.Nat.{ℕ}
use native.Mathlib.Omega.{arith}
use lib.ListN.{take}
use Rattle.pauli.specs.declared.Pauli.{Pauli}
use Rattle.refusals.specs.declared.Refusal.{Refusal}
use Rattle.record_limits.specs.Generators.{generators_within}
use Rattle.record_limits.proofs.GeneratorLimits.{generator-limits}
use Rattle.stabilizer.specs.Canonical.{canonical_generators}
use Rattle.reduced_rows.specs.declared.ReducedRows.{ReducedRows}
use Rattle.reduced_rows.specs.Rows.{reduced_of}
use Rattle.independent_rows.specs.Rows.{independent_rows}
use Rattle.elimination.specs.Answers.{eliminated, independence}
use Rattle.elimination.proofs.Answered.{refusal-answered, passed-answered}
use Rattle.elimination.proofs.independence.Goals as goal

qubits-of : (rows : List Pauli) {hs : ReducedRows} {n : ℕ} → hs ≡ reduced_of n rows → hs.n ≡ n
unfolding reduced_of
qubits-of rows e = ap (λ hs. hs.n) e

-- ---- what the test of the answer tells

refusal-told : (fault : Option Refusal) (n : ℕ) (hs : List Pauli) (checked : Result Unit Refusal) {rows : ReducedRows}
    → is_err checked ≡ true → rows ≡ reduced_of 0 [] → result_err checked ≡ fault
    → record { answer = checked; reduced = rows } ≡ eliminated fault n hs
refusal-told fault n hs (Ok done) e bare known = absurd (false≢true e)
refusal-told fault n hs (Err refusal) e bare known = refusal-answered fault n hs refl bare known

passed-told : (checked : Result Unit Refusal) → is_err checked ≡ false → checked ≡ Ok tt
passed-told (Ok tt) e = refl
passed-told (Err refusal) e = absurd (false≢true (sym e))

-- ---- the goals

pub overflow_cast-n : goal.overflow_cast-n
overflow_cast-n c = record { fits = omega (arith, (generator-limits _ _ _ c.requires.g_value).qubits) }

pub dependence_of-answer-requires-clause-g_value : goal.dependence_of-answer-requires-clause-g_value
dependence_of-answer-requires-clause-g_value c =
    let a = c.args in
    ap (λ (n : ℕ). generators_within n a.r a.g) (qubits-of _ c.independent_rows-reduced.ensures) ∙ c.requires.g_value

pub dependence_of-answer-requires-clause-reduced_value : goal.dependence_of-answer-requires-clause-reduced_value
dependence_of-answer-requires-clause-reduced_value c =
    let a = c.args in
    let found = c.independent_rows-reduced.ensures in
    found ∙ ap (λ (n : ℕ). reduced_of n (independent_rows n [] (take a.r a.g))) (sym (qubits-of _ found))

pub returns-then-is_err : goal.returns-then-is_err
unfolding independence
returns-then-is_err c =
    refusal-told _ _ _ c.dependence_of-answer.result (sym c.is_err.ensures.value ∙ c.if-is_err.true)
    c.empty-reduced.ensures c.dependence_of-answer.ensures.result_value

pub returns-else-is_err : goal.returns-else-is_err
unfolding independence
returns-else-is_err c =
    let a = c.args in
    let found = c.dependence_of-answer.ensures in
    let passed = passed-told c.dependence_of-answer.result (sym c.is_err.ensures.value ∙ c.if-is_err.false) in
    passed-answered _ _ _ passed (found.reduced_value_2 passed
    ∙ ap (λ (n : ℕ). reduced_of n (canonical_generators n (take a.r a.g)))
    (qubits-of _ c.independent_rows-reduced.ensures)) found.result_value
