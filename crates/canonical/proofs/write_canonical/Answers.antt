-- The call answers as `write_canonical` says: the fault of the checks, or what the call for the rows answers.
use Rattle.std.proofs.lemmas.Result.{err_from_is_err_and}
use mathlib.Core.Path.{refl, ap, sym, ◌∙◌}
use Rattle.sheet.proofs.WrittenText.{answers-fault}
use Rattle.stabilizer.specs.Canonical.{canonical_text, write_canonical}
use Rattle.reduced_rows.specs.Rows.{rows_in}
use Rattle.elimination.specs.Answers.{eliminated}
use Rattle.elimination.proofs.CheckOrder.{record-within, record-outside}
use Rattle.elimination.proofs.Passed.{fault-told, rows_told}
use Rattle.canonical.proofs.Text.{same_answer}
use Rattle.canonical.proofs.write_canonical.Goals as goal

pub returns-then-not-within_limits : goal.returns-then-not-within_limits
unfolding write_canonical eliminated
returns-then-not-within_limits c =
    let a = c.args in
    let outside = record-outside a.code (sym c.if-not-within_limits.ensures) in
    let told = answers-fault (canonical_text a.code) a.out.now (sym (fault-told a.code outside refl)) in
    record { value = told.0; out_after = told.1 }

pub returns-in_err-e : goal.returns-in_err-e
unfolding write_canonical
returns-in_err-e c =
    let a = c.args in
    let checked = c.eliminate_rows-e.ensures ∙ record-within a.code (sym c.if-not-within_limits.ensures) in
    let told = answers-fault (canonical_text a.code) a.out.now (sym (fault-told a.code checked c.in_err-e.was)) in
    let p = err_from_is_err_and c.from_residual.result c.from_residual.ensures.1 in
    record { value = rw (p.1, p.2) told.0; out_after = told.1 }

pub returns : goal.returns
unfolding rows_in
returns c =
    let a = c.args in
    let checked = c.eliminate_rows-e.ensures ∙ record-within a.code (sym c.if-not-within_limits.ensures) in
    let passes = fault-told a.code checked c.in_ok-e.was in
    let same = same_answer a.code passes _ (rows_told a.code checked c.in_ok-e.was) a.out.now in
    record {
      value = c.write_rows.ensures.value ∙ ap (λ after. after.answer) same;
      out_after = c.write_rows.ensures.out_after ∙ ap (λ after. after.buffer) same;
    }
