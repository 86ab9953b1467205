-- The contracts of the three calls make the cycle.
use Rattle.std.proofs.Common.{sym, arith}
use lib.Seq.{length-take-le}
use Rattle.correction_cycle.specs.Zeros.{zeros}
use Rattle.correction_cycle.proofs.Cycles.{is-cycle}
use Rattle.correction_cycle.proofs.correct_error.Goals as goal

pub slice_bounds-decode-end : goal.slice_bounds-decode-end
slice_bounds-decode-end c = sym (length-take-le _ _ (omega (arith, c.rows_there-r.ensures)))

pub returns : goal.returns
unfolding zeros
returns c =
    let a = c.args in
    let told =
    is-cycle a.sheet.now a.letters.now a.error c.read_sheet.result _ _ _ _ c.read_sheet.ensures
    c.write_syndrome.ensures.out_after (omega arith) c.rows_there-r.ensures c.decode.ensures.value
    c.decode.ensures.out_after in
    record { value = told.0; letters_after = told.1.0; guaranteed = told.1.1 }
