-- The line is of another kind; or it has no letters; or they are read.
use mathlib.Core.Path.{refl, sym, ◌∙◌}
use native.Mathlib.Omega.{arith}
use borrow.Author.Rules.{rules}
use denote.Enum.Bare.{differs_true, differs_false}
use Rattle.code_record.specs.Record.{most_qubits}
use Rattle.sheet.specs.Reader.{read_letters}
use Rattle.line_kinds.specs.contracts.LineKind.{the_type}
use Rattle.line_parts.specs.Values.{up_to}
use Rattle.line_parts.proofs.LineValues.{value-within}
use Rattle.row_reader.proofs.Answers.{answers-none}
use Rattle.row_reader.proofs.LetterLines.{claim-other, claim-no-letters, claim-value}
use Rattle.row_reader.proofs.claim_line.Goals as goal

pub returns-then-ne : goal.returns-then-ne
returns-then-ne c =
    answers-none refl
    (λ at. claim-other _ at _ (λ e. differs_true the_type _ _ (sym c.if-ne.ensures) (c.line_kind.ensures ∙ e)))

pub returns-in_err-row : goal.returns-in_err-row
returns-in_err-row c =
    let key = sym c.line_kind.ensures ∙ differs_false the_type (search rules) _ _ (sym c.if-ne.ensures) in
    answers-none c.from_residual.ensures
    (λ at. claim-no-letters _ at _ key (sym c.line_letters.ensures ∙ c.in_err-row.was))

pub overflow_add-result : goal.overflow_add-result
overflow_add-result c =
    omega (
      arith,
      value-within 2 c.args.n (up_to most_qubits read_letters) c.args.s.now
          (sym c.line_letters.ensures ∙ c.in_ok-row.was),
    )

pub returns : goal.returns
returns c =
    let key = sym c.line_kind.ensures ∙ differs_false the_type (search rules) _ _ (sym c.if-ne.ensures) in
    let letters = sym c.line_letters.ensures ∙ c.in_ok-row.was in
    record {
      within = omega (arith, value-within 2 c.args.n (up_to most_qubits read_letters) c.args.s.now letters);
      gives = λ at. sym (claim-value _ at _ key letters);
    }
