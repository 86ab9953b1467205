-- The call answers as `write_families` says: 15, or 17, or the lines, as the tests go.
use mathlib.Core.Path.{sym}
use Rattle.std.proofs.Common.{◌≡◌, ℕ, ◌+◌, ◌*◌, ◌≤◌, length, ap, ◌∙◌, arith}
use Rattle.std.proofs.lemmas.Result.{err_from_is_err_and}
use native.Mathlib.Nat.{mul-le-mul}
use Rattle.code_record.specs.declared.Code.{Code}
use Rattle.code_record.specs.Record.{row_room, Sized}
use Rattle.code_record.proofs.ArrayLengths.{sized_of}
use Rattle.sheet.proofs.WrittenText.{answers-fault, answers-short, answers-whole}
use Rattle.row_writer.proofs.Lines.{qubits-allowed}
use Rattle.families_writer.specs.Families.{families_text, family_rows, write_families}
use Rattle.families_writer.proofs.Families.{length-families}
use Rattle.families_writer.proofs.write_families.Goals as goal

pub returns-in_err-check_qubits : goal.returns-in_err-check_qubits
unfolding write_families
returns-in_err-check_qubits c =
    let a = c.args in
    let p = err_from_is_err_and c.from_residual.result c.from_residual.ensures.1 in
    let told = answers-fault (families_text a.code) a.out.now (sym c.in_err-check_qubits.ensures) in
    record { value = rw (p.1, p.2) told.0; out_after = told.1 }

pub overflow_add-n : goal.overflow_add-n
overflow_add-n c = record { fits = omega (arith, qubits-allowed c.args.code.n c.in_ok-check_qubits.ensures) }

pub overflow_mul-row_count : goal.overflow_mul-row_count
unfolding family_rows
overflow_mul-row_count c =
    let few : c.row_count.result ≤ 3 * row_room = omega arith in
    let narrow : c.args.code.n + 4 ≤ 28 = omega (arith, qubits-allowed c.args.code.n c.in_ok-check_qubits.ensures) in
    let product = mul-le-mul few narrow in
    record { fits = omega arith }

-- The length of the lines, by their count as the code tells it.
size : (code : Code) → Sized code → (rows : ℕ) → rows ≡ family_rows code.n code.r
    → length (families_text code) ≡ rows * (code.n + 4)
size code sized rows told = length-families code sized ∙ ap (λ (k : ℕ). k * (code.n + 4)) (sym told)

pub returns-then-out-row_count : goal.returns-then-out-row_count
unfolding write_families
returns-then-out-row_count c =
    let a = c.args in
    let long = size a.code (sized_of a.code c.well_formed.0) _ c.row_count.ensures in
    let told = answers-short (families_text a.code) a.out.now (sym c.in_ok-check_qubits.ensures) (omega arith) in
    record { value = told.0; out_after = told.1 }

pub family_lines-requires-clause-le_n : goal.family_lines-requires-clause-le_n
family_lines-requires-clause-le_n c = (qubits-allowed c.args.code.n c.in_ok-check_qubits.ensures).0

pub family_lines-requires-clause-n_le_most_qubits : goal.family_lines-requires-clause-n_le_most_qubits
family_lines-requires-clause-n_le_most_qubits c = (qubits-allowed c.args.code.n c.in_ok-check_qubits.ensures).1

pub family_lines-requires-clause-code_in_bounds : goal.family_lines-requires-clause-code_in_bounds
family_lines-requires-clause-code_in_bounds c =
    let long = size c.args.code (sized_of c.args.code c.well_formed.0) _ c.row_count.ensures in omega arith

pub returns : goal.returns
unfolding write_families
returns c =
    let a = c.args in
    let long = size a.code (sized_of a.code c.well_formed.0) _ c.row_count.ensures in
    let told = answers-whole (families_text a.code) a.out.now (sym c.in_ok-check_qubits.ensures) (omega arith)
    c.family_lines.ensures.value c.family_lines.ensures.out_after in
    record { value = told.0; out_after = told.1 }
