-- The call answers as `write_corrections` says: 15, 17 or the lines, as the tests go.
use Rattle.std.proofs.Common.{length, sym, ◌∙◌}
use Rattle.std.proofs.lemmas.Result.{err_from_is_err_and}
use Rattle.sheet.proofs.WrittenText.{answers-fault, answers-short, answers-whole}
use Rattle.row_writer.proofs.Lines.{qubits-allowed}
use Rattle.correction_lines.specs.CorrectionLines.{corrections_text}
use Rattle.correction_lines.proofs.Fits.{fit-room, unfit-room}
use Rattle.corrections_writer.specs.Corrections.{write_corrections}
use Rattle.corrections_writer.proofs.write_corrections.Goals as goal

pub returns-in_err-check_qubits : goal.returns-in_err-check_qubits
unfolding write_corrections
returns-in_err-check_qubits c =
    let a = c.args in
    let p = err_from_is_err_and c.from_residual.result c.from_residual.ensures.1 in
    let told = answers-fault (corrections_text a.words.now a.t a.r a.syndromes.now) a.out.now
    (sym c.in_err-check_qubits.ensures) in
    record { value = rw (p.1, p.2) told.0; out_after = told.1 }

pub returns-then-not-corrections_fit : goal.returns-then-not-corrections_fit
unfolding write_corrections
returns-then-not-corrections_fit c =
    let a = c.args in
    let b = qubits-allowed a.words.now.qubits c.in_ok-check_qubits.ensures in
    let short = unfit-room a.words.now a.t a.r a.syndromes.now (length a.out.now) b.0 b.1
    (sym c.if-not-corrections_fit.true ∙ c.corrections_fit.ensures) in
    let told = answers-short _ a.out.now (sym c.in_ok-check_qubits.ensures) short in
    record { value = told.0; out_after = told.1 }

pub correction_lines-requires : goal.correction_lines-requires
correction_lines-requires c =
    let a = c.args in
    let b = qubits-allowed a.words.now.qubits c.in_ok-check_qubits.ensures in
    record {
      le_qubits = b.0;
      qubits_le_most_qubits = b.1;
      syndromes_in_bounds =
          fit-room a.words.now a.t a.r a.syndromes.now (length a.out.now) b.0 b.1
          (sym c.if-not-corrections_fit.false ∙ c.corrections_fit.ensures);
    }

pub returns : goal.returns
unfolding write_corrections
returns c =
    let a = c.args in
    let b = qubits-allowed a.words.now.qubits c.in_ok-check_qubits.ensures in
    let room = fit-room a.words.now a.t a.r a.syndromes.now (length a.out.now) b.0 b.1
    (sym c.if-not-corrections_fit.false ∙ c.corrections_fit.ensures) in
    let told = answers-whole _ a.out.now (sym c.in_ok-check_qubits.ensures) room c.correction_lines.ensures.value
    c.correction_lines.ensures.out_after in
    record { value = told.0; out_after = told.1 }
