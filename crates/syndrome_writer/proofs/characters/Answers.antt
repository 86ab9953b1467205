-- Each turn lays the next character.
use Rattle.std.proofs.Common.{◌≡◌, ap, ◌∙◌}
use lib.ListN.{length, take, set}
use borrow.Author.Rules.{rules}
use Rattle.code_record.specs.Record.{row_room}
use Rattle.sheet.specs.Text.{laid}
use Rattle.sheet.proofs.Laid.{laid-nothing}
use Rattle.syndrome_writer.proofs.SyndromeText.{characters_of, character-laid, characters-whole}
use Rattle.syndrome_writer.proofs.characters.Goals as goal

pub loop-place-init : goal.loop-place-init
loop-place-init c = laid-nothing _

pub loop-place-preserved : goal.loop-place-preserved
loop-place-preserved c =
    let a = c.args in
    let l = c.loop-place in
    let room : length a.g ≡ row_room = search rules in
    let before = laid (take l.place (characters_of a.r a.g a.p)) a.out.now in
    ap (λ bytes. set bytes l.place c.character.result) l.invariant
    ∙ ap (λ byte. set before l.place byte) c.character.ensures
    ∙ character-laid a.r a.g a.p room c.requires.r_le_row_room a.out.now c.requires.r_in_bounds l.place
    c.loop-place-test.true

pub returns : goal.returns
returns c =
    let a = c.args in
    let room : length a.g ≡ row_room = search rules in
    c.loop-place.invariant
    ∙ ap (λ text. laid text a.out.now)
    (characters-whole a.r a.g a.p room c.requires.r_le_row_room c.loop-place.place c.loop-place-test.false)
