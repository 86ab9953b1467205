-- The x and z lines, and then w; a refusal ends it.
use Rattle.std.specs.Prelude.{Result, Ok}
use mathlib.Core.List.{List}
use mathlib.Core.Path.{◌≡◌, ap, sym, subst, ◌∙◌}
use Prim.Native.Nat.{ℕ, ◌+◌, ◌-◌, ◌*◌, ◌≤◌}
use native.Mathlib.Omega.{arith}
use lib.ListN.{length, take, drop}
use Rattle.pauli.specs.declared.Pauli.{Pauli}
use Rattle.code_record.specs.Record.{most_qubits, pair_count}
use Rattle.sheet.specs.Reader.{Reader, SheetRead, answered}
use Rattle.sheet.proofs.Answered.{sheet-refused}
use Rattle.sheet.proofs.Parts.{tail_of}
use Rattle.sheet.proofs.Reading.{then-got, then-stop}
use Rattle.row_reader.specs.Answers.{within_qubits}
use Rattle.rows_reader.specs.declared.Logicals.{Logicals}
use Rattle.rows_reader.specs.declared.RowsFault.{RowsFault}
use Rattle.rows_reader.specs.Answers.{pair_lines, AnswersLogicals, lines_at}
use Rattle.ordered_lines.specs.Answers.{with_claim}
use Rattle.ordered_lines.proofs.Reached.{Reached, LogicalsReached, reached-more, logicals-reached, logicals-refused}
use Rattle.ordered_lines.proofs.Sheets.{pairs_first, claim-of-held}
use Rattle.ordered_lines.proofs.lines_after.Goals as goal

-- What the x and z lines were read as, k of each.
abbrev Answers : List ℕ → (k n : ℕ) → Result Logicals RowsFault → Type 0
Answers s k n r = AnswersLogicals s r (λ at. within_qubits n at (pair_lines k n at))

-- what follows
abbrev next : (n d at k : ℕ) → List Pauli → List Pauli × List Pauli → Reader SheetRead
next n d at k gs ls = with_claim n d (at + 2 * k) gs ls.0 ls.1

module _ (s : List ℕ) (from n at k : ℕ) (r : Result Logicals RowsFault) (few : n ≤ most_qubits)
    (here : from ≤ length s) (told : Answers (take (length s - from) (drop from s)) k n r) where
  answers : Answers (drop from s) k n r
  answers = subst (λ t. Answers t k n r) (tail_of from s) told

  module _ {logicals : Logicals} (e : r ≡ Ok logicals) where
    reached : LogicalsReached (drop from s) logicals (pair_lines k n at (drop from s))
    reached = logicals-reached k n at (drop from s) few r answers e

    ls-read : Reached s (from + logicals.used) reached.read (pair_lines k n at (drop from s))
    ls-read = reached-more from logicals.used s here reached.reached

few-pairs : (n r : ℕ) {k : ℕ} → n ≤ most_qubits → k ≡ pair_count n r → k ≤ most_qubits
unfolding pair_count
few-pairs n r few paired = omega (arith, paired)

pub returns-in_default : goal.returns-in_default
returns-in_default c =
    let a = c.args in
    let k = pair_count a.n a.generators.count in
    let few = c.requires.n_le_most_qubits in
    let h = answers a.s.now a.from a.n a.at k _ few c.requires.from_in_bounds
    c.logical_lines-read.ensures.answers_logicals in
    let mapped = rw c.in_default.is at c.map.ensures.cases in
    λ gs e. sheet-refused _ c.refused.ensures (c.lines_at.ensures ∙ ap (lines_at a.at) mapped)
    (pairs_first a.n a.d a.at gs k (ap (λ p. pair_count a.n p.0) e) (drop a.from a.s.now)
    ∙ then-stop (next a.n a.d a.at k gs) (logicals-refused k a.n a.at (drop a.from a.s.now) few _ h c.in_default.is))

pub overflow_mul-claim_at : goal.overflow_mul-claim_at
overflow_mul-claim_at c =
    omega (arith, few-pairs c.args.n c.args.generators.count c.requires.n_le_most_qubits c.pair_count.ensures)

pub overflow_add-claim_at : goal.overflow_add-claim_at
overflow_add-claim_at c =
    omega (arith, few-pairs c.args.n c.args.generators.count c.requires.n_le_most_qubits c.pair_count.ensures)

pub overflow_add-from : goal.overflow_add-from
overflow_add-from c =
    let a = c.args in
    let read = ls-read a.s.now a.from a.n a.at (pair_count a.n a.generators.count) _ c.requires.n_le_most_qubits
    c.requires.from_in_bounds c.logical_lines-read.ensures.answers_logicals c.in-Ok.is in
    omega (arith, read.within)

pub returns : goal.returns
returns c =
    let a = c.args in
    let s = a.s.now in
    let k = pair_count a.n a.generators.count in
    let few = c.requires.n_le_most_qubits in
    let here = c.requires.from_in_bounds in
    let told = c.logical_lines-read.ensures.answers_logicals in
    let h = reached s a.from a.n a.at k _ few here told c.in-Ok.is in
    let read = ls-read s a.from a.n a.at k _ few here told c.in-Ok.is in
    let end = a.from + c.in-Ok.logicals.used in
    λ gs e. c.claim_after.ensures
    ∙ ap (answered s)
    (claim-of-held end a.n a.d (a.at + 2 * c.pair_count.result) gs h.read.0 h.read.1 a.generators c.in-Ok.logicals s e
    h.held few read.within
    ∙ ap (λ m. next a.n a.d a.at m gs h.read (drop end s)) c.pair_count.ensures
    ∙ sym
    (pairs_first a.n a.d a.at gs k (ap (λ p. pair_count a.n p.0) e) (drop a.from s)
    ∙ then-got (next a.n a.d a.at k gs) read.gives))
