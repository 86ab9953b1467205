-- The call for 14 answers as `write_refusal` says: 15, or 17, or the lines, as the tests go.
use mathlib.Core.Path.{sym}
use Rattle.std.proofs.Common.{arith}
use Rattle.std.proofs.lemmas.Result.{err_from_is_err_and}
use Rattle.refusals.specs.declared.Refusal.{Refusal}
use Rattle.sheet.proofs.WrittenText.{answers-fault, answers-short, answers-whole}
use Rattle.number_writer.proofs.Numbers.{length-decimal-le}
use Rattle.row_writer.proofs.Lines.{qubits-allowed}
use Rattle.reporting.specs.Report.{refusal_text}
use Rattle.refusal_writer.specs.RefusalLines.{errors_fault, pair_fault, write_refusal}
use Rattle.refusal_writer.proofs.RefusalText.{length-refutation}
use Rattle.refusal_writer.proofs.write_refutation.Goals as goal

pub returns-in_err-check_qubits : goal.returns-in_err-check_qubits
unfolding write_refusal pair_fault errors_fault
returns-in_err-check_qubits c =
    let a = c.args in
    let p = err_from_is_err_and c.from_residual.result c.from_residual.ensures.1 in
    let told = answers-fault (refusal_text (Refusal.DistanceRefuted a.line a.pair)) a.out.now
    (sym c.in_err-check_qubits.ensures) in
    record { value = rw (p.1, p.2) told.0; out_after = told.1 }

-- ---- no sum on the way to the length is large
pub overflow_add-digit_count : goal.overflow_add-digit_count
overflow_add-digit_count c = record { fits = omega (arith, length-decimal-le c.args.line) }

pub overflow_add-n : goal.overflow_add-n
overflow_add-n c = record { fits = omega (arith, qubits-allowed c.args.pair.n c.in_ok-check_qubits.ensures) }

pub overflow_mul-n : goal.overflow_mul-n
overflow_mul-n c = record { fits = omega (arith, qubits-allowed c.args.pair.n c.in_ok-check_qubits.ensures) }

pub overflow_add-digit_count-2 : goal.overflow_add-digit_count-2
overflow_add-digit_count-2 c =
    record {
      fits = omega (arith, length-decimal-le c.args.line, qubits-allowed c.args.pair.n c.in_ok-check_qubits.ensures);
    }

pub returns-then-out-digit_count : goal.returns-then-out-digit_count
unfolding write_refusal pair_fault errors_fault
returns-then-out-digit_count c =
    let a = c.args in
    let long = length-refutation a.line a.pair in
    let told = answers-short (refusal_text (Refusal.DistanceRefuted a.line a.pair)) a.out.now
    (sym c.in_ok-check_qubits.ensures) (omega arith) in
    record { value = told.0; out_after = told.1 }

pub refutation_lines-requires-clause-le_n : goal.refutation_lines-requires-clause-le_n
refutation_lines-requires-clause-le_n c = (qubits-allowed c.args.pair.n c.in_ok-check_qubits.ensures).0

pub refutation_lines-requires-clause-n_le_most_qubits : goal.refutation_lines-requires-clause-n_le_most_qubits
refutation_lines-requires-clause-n_le_most_qubits c = (qubits-allowed c.args.pair.n c.in_ok-check_qubits.ensures).1

pub refutation_lines-requires-clause-pair_in_bounds : goal.refutation_lines-requires-clause-pair_in_bounds
refutation_lines-requires-clause-pair_in_bounds c = omega (arith, length-refutation c.args.line c.args.pair)

pub returns : goal.returns
unfolding write_refusal pair_fault errors_fault
returns c =
    let a = c.args in
    let long = length-refutation a.line a.pair in
    let told = answers-whole (refusal_text (Refusal.DistanceRefuted a.line a.pair)) a.out.now
    (sym c.in_ok-check_qubits.ensures) (omega arith)
    c.refutation_lines.ensures.value c.refutation_lines.ensures.out_after in
    record { value = told.0; out_after = told.1 }
