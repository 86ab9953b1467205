-- The sign is + where the phase is that of +, and - otherwise, as the definition has it.
use mathlib.Core.Bool.{Bool, cond}
use mathlib.Core.Path.{ap, sym, ◌∙◌}
use Rattle.letters.specs.declared.Sign.TheVariants.{Plus, Minus}
use Rattle.pauli.specs.Letters.{sign_of}
use Rattle.pauli.proofs.Pauli.sign.Goals as goal

pub returns-then-has_sign : goal.returns-then-has_sign
unfolding sign_of
returns-then-has_sign c = ap (λ (plus : Bool). cond plus Plus Minus) (sym c.if-has_sign.true ∙ c.has_sign.ensures)

pub returns-else-has_sign : goal.returns-else-has_sign
unfolding sign_of
returns-else-has_sign c = ap (λ (plus : Bool). cond plus Plus Minus) (sym c.if-has_sign.false ∙ c.has_sign.ensures)
