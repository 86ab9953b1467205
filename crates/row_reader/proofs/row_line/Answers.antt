-- The family's key is not there; or the row behind it is read.
use mathlib.Core.Path.{refl, sym, ◌∙◌}
use Rattle.row_reader.proofs.Answers.{answers-none, within_same, row-line-form, row-not-begun}
use Rattle.row_reader.proofs.LetterLines.{refused-within}
use Rattle.row_reader.proofs.row_line.Goals as goal

pub returns-then-not-begins_row : goal.returns-then-not-begins_row
returns-then-not-begins_row c =
    answers-none refl
    (λ at. refused-within _ at _ _ (row-not-begun _ _ at _ (sym c.if-not-begins_row.ensures)))

pub returns : goal.returns
returns c =
    let family = c.args.family in
    record {
      within = c.signed_row.ensures.within;
      gives =
          λ at. c.signed_row.ensures.gives at
          ∙ sym (within_same _ at _ _ _ (row-line-form family _ at _ (sym c.if-not-begins_row.ensures)));
    }
