-- The letters are too many; or no line feed is behind them; or the part before it is read.
use mathlib.Core.Path.{sym, ◌∙◌}
use native.Mathlib.Omega.{arith}
use Rattle.code_record.specs.Record.{most_qubits}
use Rattle.sheet.specs.Reader.{read_letters}
use Rattle.line_parts.specs.Values.{up_to}
use Rattle.line_parts.proofs.LineValues.{value-many, value_none, value_read, feed-within}
use Rattle.row_reader.proofs.line_letters.Goals as goal

pub returns-then-n-gt-MOST_QUBITS : goal.returns-then-n-gt-MOST_QUBITS
returns-then-n-gt-MOST_QUBITS c = sym (value-many most_qubits _ _ read_letters _ c.if-n-gt-MOST_QUBITS.true)

pub returns-then-not-line_feed_at : goal.returns-then-not-line_feed_at
returns-then-not-line_feed_at c =
    let a = c.args in
    sym (value_none a.from a.n (up_to most_qubits read_letters) a.s.now (sym c.if-not-line_feed_at.ensures))

pub slice_bounds-read_letters-end : goal.slice_bounds-read_letters-end
slice_bounds-read_letters-end c =
    let a = c.args in
    omega (arith, feed-within a.from a.n read_letters a.s.now (sym c.if-not-line_feed_at.ensures))

pub returns : goal.returns
returns c =
    let a = c.args in
    c.read_letters.ensures
    ∙ sym (value_read a.from a.n (up_to most_qubits read_letters) a.s.now (sym c.if-not-line_feed_at.ensures))
