-- The byte is one of the two, or neither.
use mathlib.Core.Path.{ap, sym, ◌∙◌}
use borrow.Author.Rules.{rules}
use mathlib.Core.List.{[], ◌∷◌}
use Rattle.letters.specs.declared.Sign.TheVariants.{Plus, Minus}
use Rattle.letters.specs.Letters.{sign_byte, read_sign}
use Rattle.letters.specs.Lists.{first_of, read_byte}
use Rattle.letters.proofs.Lists.{read_byte-skip}
use Rattle.letters.proofs.Sign.read.Goals as goal

pub returns-in-43 : goal.returns-in-43
unfolding read_sign read_byte first_of
returns-in-43 c = ap read_sign (sym c.in-43.is)

pub returns-in-45 : goal.returns-in-45
unfolding read_sign read_byte first_of
returns-in-45 c = ap read_sign (sym c.in-45.is)

pub returns-in_default : goal.returns-in_default
unfolding read_sign read_byte first_of
returns-in_default c =
    sym
    (read_byte-skip sign_byte Plus (Minus ∷ []) c.args.c (search rules)
    ∙ read_byte-skip sign_byte Minus [] c.args.c (search rules))
