-- The byte is one of the four, or none of them.
use mathlib.Core.Path.{ap, sym, ◌∙◌}
use borrow.Author.Rules.{rules}
use mathlib.Core.List.{[], ◌∷◌}
use Rattle.letters.specs.declared.Letter.TheVariants.{I, X, Y, Z}
use Rattle.letters.specs.Letters.{letter_byte, read_letter}
use Rattle.letters.specs.Lists.{first_of, read_byte}
use Rattle.letters.proofs.Lists.{read_byte-skip}
use Rattle.letters.proofs.Letter.read.Goals as goal

pub returns-in-73 : goal.returns-in-73
unfolding read_letter read_byte first_of
returns-in-73 c = ap read_letter (sym c.in-73.is)

pub returns-in-88 : goal.returns-in-88
unfolding read_letter read_byte first_of
returns-in-88 c = ap read_letter (sym c.in-88.is)

pub returns-in-89 : goal.returns-in-89
unfolding read_letter read_byte first_of
returns-in-89 c = ap read_letter (sym c.in-89.is)

pub returns-in-90 : goal.returns-in-90
unfolding read_letter read_byte first_of
returns-in-90 c = ap read_letter (sym c.in-90.is)

pub returns-in_default : goal.returns-in_default
unfolding read_letter read_byte first_of
returns-in_default c =
    sym
    (read_byte-skip letter_byte I (X ∷ Y ∷ Z ∷ []) c.args.c (search rules)
    ∙ read_byte-skip letter_byte X (Y ∷ Z ∷ []) c.args.c (search rules)
    ∙ read_byte-skip letter_byte Y (Z ∷ []) c.args.c (search rules)
    ∙ read_byte-skip letter_byte Z [] c.args.c (search rules))
