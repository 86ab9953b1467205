-- The call for several rows answers as `write_rows` says: 15, or 17, or the rows' lines, as the tests go.
use mathlib.Core.Path.{sym}
use Rattle.std.proofs.Common.{◌≡◌, ℕ, ◌+◌, ◌*◌, ◌≤◌, List, length, min, take, ap, ◌∙◌, arith, rules}
use Rattle.std.proofs.lemmas.Result.{err_from_is_err_and}
use native.Mathlib.Nat.{mul-le-mul}
use Rattle.pauli.specs.declared.Pauli.{Pauli}
use Rattle.code_record.specs.Record.{row_room}
use Rattle.sheet.specs.Text.{laid}
use Rattle.sheet.proofs.WrittenText.{answers-fault, answers-short, answers-whole}
use Rattle.row_writer.proofs.Lines.{qubits-allowed}
use Rattle.rows_writer.specs.Rows.{rows_text, write_rows}
use Rattle.rows_writer.proofs.Rows.{take-there, length-there}
use Rattle.rows_writer.proofs.write_rows.Goals as goal

pub returns-in_err-check_qubits : goal.returns-in_err-check_qubits
unfolding write_rows
returns-in_err-check_qubits c =
    let a = c.args in
    let p = err_from_is_err_and c.from_residual.result c.from_residual.ensures.1 in
    let told = answers-fault (rows_text a.key a.n (take a.count a.rows)) a.out.now
    (sym c.in_err-check_qubits.ensures) in
    record { value = rw (p.1, p.2) told.0; out_after = told.1 }

pub overflow_add-n : goal.overflow_add-n
overflow_add-n c = record { fits = omega (arith, qubits-allowed c.args.n c.in_ok-check_qubits.ensures) }

pub overflow_mul-there : goal.overflow_mul-there
overflow_mul-there c =
    let few : c.rows_there-there.result ≤ row_room = omega (arith, c.rows_there-there.ensures) in
    let narrow : c.args.n + 4 ≤ 28 = omega (arith, qubits-allowed c.args.n c.in_ok-check_qubits.ensures) in
    let product = mul-le-mul few narrow in
    record { fits = omega arith }

-- ---- the lines are those of the rows that there are
module _
    (key n count there : ℕ) (rows : List Pauli)
    (sized : length rows ≡ row_room) (told : there ≡ min count row_room) where
  shown : rows_text key n (take there rows) ≡ rows_text key n (take count rows)
  shown =
      ap (λ (k : ℕ). rows_text key n (take k rows)) told
      ∙ ap (rows_text key n) (take-there rows row_room sized count)

  size : length (rows_text key n (take count rows)) ≡ there * (n + 4)
  size = length-there rows row_room sized count key n ∙ ap (λ (k : ℕ). k * (n + 4)) (sym told)

pub returns-then-out-there : goal.returns-then-out-there
unfolding write_rows
returns-then-out-there c =
    let a = c.args in
    let long = size a.key a.n a.count _ a.rows (search rules) c.rows_there-there.ensures in
    let told = answers-short (rows_text a.key a.n (take a.count a.rows)) a.out.now (sym c.in_ok-check_qubits.ensures)
    (omega arith) in
    record { value = told.0; out_after = told.1 }

pub row_lines-requires-clause-le_n : goal.row_lines-requires-clause-le_n
row_lines-requires-clause-le_n c = (qubits-allowed c.args.n c.in_ok-check_qubits.ensures).0

pub row_lines-requires-clause-n_le_most_qubits : goal.row_lines-requires-clause-n_le_most_qubits
row_lines-requires-clause-n_le_most_qubits c = (qubits-allowed c.args.n c.in_ok-check_qubits.ensures).1

pub row_lines-requires-clause-rows_in_bounds : goal.row_lines-requires-clause-rows_in_bounds
row_lines-requires-clause-rows_in_bounds c =
    let a = c.args in
    let same = ap length (shown a.key a.n a.count _ a.rows (search rules) c.rows_there-there.ensures) in
    let long = size a.key a.n a.count _ a.rows (search rules) c.rows_there-there.ensures in
    omega arith

pub returns : goal.returns
unfolding write_rows
returns c =
    let a = c.args in
    let same = shown a.key a.n a.count _ a.rows (search rules) c.rows_there-there.ensures in
    let long = size a.key a.n a.count _ a.rows (search rules) c.rows_there-there.ensures in
    let told = answers-whole (rows_text a.key a.n (take a.count a.rows)) a.out.now (sym c.in_ok-check_qubits.ensures)
    (omega arith) (c.row_lines.ensures.value ∙ ap length same)
    (c.row_lines.ensures.out_after ∙ ap (λ (text : List ℕ). laid text a.out.now) same) in
    record { value = told.0; out_after = told.1 }
