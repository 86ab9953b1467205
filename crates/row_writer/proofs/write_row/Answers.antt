-- The call for one row answers as `write_row` says: 15, or 17, or the line, as the tests go.
use mathlib.Core.Path.{sym}
use Rattle.std.proofs.Common.{◌<◌, ◌≤◌, length, arith}
use Rattle.std.proofs.lemmas.Result.{err_from_is_err_and}
use Rattle.sheet.proofs.WrittenText.{answers-fault, answers-short, answers-whole}
use Rattle.row_writer.specs.Lines.{row_line_text, write_row}
use Rattle.row_writer.proofs.Lines.{qubits-allowed, length-row_line_text}
use Rattle.row_writer.proofs.write_row.Goals as goal

pub returns-in_err-check_qubits : goal.returns-in_err-check_qubits
unfolding write_row
returns-in_err-check_qubits c =
    let a = c.args in
    let p = err_from_is_err_and c.from_residual.result c.from_residual.ensures.1 in
    let told = answers-fault (row_line_text a.key a.n a.row) a.out.now (sym c.in_err-check_qubits.ensures) in
    record { value = rw (p.1, p.2) told.0; out_after = told.1 }

pub overflow_add-n : goal.overflow_add-n
overflow_add-n c = record { fits = omega (arith, qubits-allowed c.args.n c.in_ok-check_qubits.ensures) }

pub returns-then-out-n : goal.returns-then-out-n
unfolding write_row
returns-then-out-n c =
    let a = c.args in
    let short : length a.out.now < length (row_line_text a.key a.n a.row) =
    omega (arith, length-row_line_text a.key a.n a.row, c.if-out-n.true) in
    let told = answers-short _ a.out.now (sym c.in_ok-check_qubits.ensures) short in
    record { value = told.0; out_after = told.1 }

pub row_line-requires-clause-n_le_most_qubits : goal.row_line-requires-clause-n_le_most_qubits
row_line-requires-clause-n_le_most_qubits c = (qubits-allowed c.args.n c.in_ok-check_qubits.ensures).1

pub row_line-requires-clause-row_in_bounds : goal.row_line-requires-clause-row_in_bounds
row_line-requires-clause-row_in_bounds c =
    let a = c.args in omega (arith, length-row_line_text a.key a.n a.row, c.if-out-n.false)

pub returns : goal.returns
unfolding write_row
returns c =
    let a = c.args in
    let room : length (row_line_text a.key a.n a.row) ≤ length a.out.now =
    omega (arith, length-row_line_text a.key a.n a.row, c.if-out-n.false) in
    let told = answers-whole _ a.out.now (sym c.in_ok-check_qubits.ensures) room c.row_line.ensures.value
    c.row_line.ensures.out_after in
    record { value = told.0; out_after = told.1 }
