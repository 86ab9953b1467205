-- The character is 0 or 1, or none of them.
use borrow.Author.Rules.{rules}
use Rattle.letters.specs.Options.{bind}
use mathlib.Core.Bool.{true, false}
use mathlib.Core.List.{[], ◌∷◌}
use mathlib.Core.Path.{ap, sym, ◌∙◌}
use Rattle.letters.specs.Lists.{first_of, read_byte}
use Rattle.letters.proofs.Lists.{read_byte-skip}
use Rattle.pauli.specs.Syndrome.{mask_of_bits}
use Rattle.sheet.specs.Reader.{read_each}
use Rattle.decoder.specs.Syndrome.{bit_byte, read_bit, read_syndrome}
use Rattle.syndrome_reader.specs.Mask.{mask_read, read_mask}
use Rattle.syndrome_reader.proofs.ReadMask.{character-malformed}
use Rattle.syndrome_reader.proofs.read_character.Goals as goal

pub returns-in-48 : goal.returns-in-48
unfolding read_mask mask_read mask_of_bits read_syndrome read_each bind read_bit read_byte first_of bit_byte
returns-in-48 c = ap (λ character. read_mask 1 (character ∷ [])) (sym c.in-48.is)

pub returns-in-49 : goal.returns-in-49
unfolding read_mask mask_read mask_of_bits read_syndrome read_each bind read_bit read_byte first_of bit_byte
returns-in-49 c = ap (λ character. read_mask 1 (character ∷ [])) (sym c.in-49.is)

pub returns-in_default : goal.returns-in_default
unfolding read_bit read_byte first_of bit_byte
returns-in_default c =
    let character = c.args.c in
    sym
    (character-malformed character
    (read_byte-skip bit_byte false (true ∷ []) character (search rules)
    ∙ read_byte-skip bit_byte true [] character (search rules)))
