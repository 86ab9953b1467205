-- The kind, and then the number, of one or two digits.
use mathlib.Core.Path.{sym}
use native.Mathlib.Omega.{arith}
use borrow.Author.Rules.{rules}
use denote.Enum.Bare.{differs_true, differs_false}
use Rattle.refusals.specs.declared.Refusal.{Refusal}
use Rattle.code_record.specs.Record.{most_qubits}
use Rattle.sheet.specs.Reader.{qubit_digits}
use Rattle.line_kinds.specs.declared.LineKind.{LineKind}
use Rattle.line_kinds.specs.contracts.LineKind.{the_type}
use Rattle.number_reader.proofs.NumberLines.{digits-few, qubit-line-form, number-of-other, number-of-kind}
use Rattle.number_reader.proofs.qubit_line.Goals as goal

pub returns-then-ne : goal.returns-then-ne
returns-then-ne c =
    let s = c.args.s.now in
    number-of-other LineKind.Qubits (qubit_digits s) 1 2 most_qubits (Refusal.QubitCount 1) s (qubit-line-form s)
    c.line_kind.ensures
    (differs_true the_type _ _ (sym c.if-ne.ensures))

pub number_line-requires : goal.number_line-requires
number_line-requires c = omega (arith, digits-few c.args.s.now, c.qubit_digits-digits.ensures)

pub returns : goal.returns
returns c =
    let s = c.args.s.now in
    number-of-kind LineKind.Qubits (qubit_digits s) 1 2 most_qubits (Refusal.QubitCount 1) s (qubit-line-form s)
    c.line_kind.ensures
    (omega arith)
    (differs_false the_type (search rules) _ _ (sym c.if-ne.ensures))
    c.qubit_digits-digits.ensures
    c.number_line.ensures
