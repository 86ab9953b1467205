-- The call answers as `write_header` says: 17, or the lines, as the test goes.
use mathlib.Core.Path.{refl}
use Rattle.std.proofs.Common.{arith}
use Rattle.sheet.proofs.WrittenText.{answers-short, answers-whole}
use Rattle.header_writer.specs.Header.{header_text, write_header}
use Rattle.header_writer.proofs.write_header.Goals as goal

pub returns-then-out-header_length : goal.returns-then-out-header_length
unfolding write_header
returns-then-out-header_length c =
    let a = c.args in
    let told = answers-short (header_text a.n a.k a.d a.t) a.out.now refl (omega arith) in
    record { value = told.0; out_after = told.1 }

pub returns : goal.returns
unfolding write_header
returns c =
    let a = c.args in
    let told = answers-whole (header_text a.n a.k a.d a.t) a.out.now refl (omega arith)
    c.header_lines.ensures.value c.header_lines.ensures.out_after in
    record { value = told.0; out_after = told.1 }
