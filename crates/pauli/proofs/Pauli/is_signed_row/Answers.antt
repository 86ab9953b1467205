-- A Pauli is a signed row where its phase is that of one of the two signs, which are tried in turn.
use mathlib.Core.Bool.{Bool, ◌||◌}
use mathlib.Core.Path.{ap, sym, ◌∙◌}
use Rattle.letters.specs.declared.Sign.TheVariants.{Minus}
use Rattle.pauli.specs.Letters.{has_sign, is_signed_row}
use Rattle.pauli.proofs.Pauli.is_signed_row.Goals as goal

pub returns-then-has_sign : goal.returns-then-has_sign
unfolding is_signed_row
returns-then-has_sign c =
    let P = c.args.self in
    c.if-has_sign.true ∙ ap (λ (plus : Bool). plus || has_sign Minus P) (sym c.if-has_sign.true ∙ c.has_sign.ensures)

pub returns-else-has_sign : goal.returns-else-has_sign
unfolding is_signed_row
returns-else-has_sign c =
    let P = c.args.self in
    c.has_sign-else-has_sign.ensures
    ∙ ap (λ (plus : Bool). plus || has_sign Minus P)
    (sym c.if-has_sign.false ∙ c.has_sign.ensures)
