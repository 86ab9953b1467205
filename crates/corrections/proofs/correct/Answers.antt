-- Nothing is needed, or one letter is enough, or the record's words give the correction.
use Rattle.std.specs.Prelude.{Some}
use Rattle.std.proofs.Common.{◌≡◌, ℕ, refl, ap, ap₂, ◌∙◌, arith}
use Rattle.letters.specs.declared.Sign.TheVariants.{Plus}
use Rattle.pauli.specs.Letters.{row_of, row_phase}
use Rattle.pauli.specs.Masks.{dot, count_ones, ones_among}
use Rattle.pauli.specs.Product.{identity}
use Rattle.letter_sums.specs.declared.LetterWords.{LetterWords}
use Rattle.corrections.specs.Corrections.{correction_by}
use Rattle.corrections.proofs.ByValue.{corrections-by-value}
use Rattle.corrections.proofs.Light.{unstruck, none-allowed-by, by-one-letter}
use Rattle.corrections.proofs.correct.Goals as goal

identity-row : identity ≡ row_of Plus 0 0
unfolding row_of row_phase dot count_ones ones_among
identity-row = refl

pub returns-then-syndrome-eq0 : goal.returns-then-syndrome-eq0
returns-then-syndrome-eq0 c =
    let a = c.args in
    ap Some (c.identity.ensures ∙ identity-row) ∙ unstruck a.code a.syndrome c.if-syndrome-eq0.true

pub returns-then-t-lt1 : goal.returns-then-t-lt1
returns-then-t-lt1 c =
    let a = c.args in
    none-allowed-by a.code a.syndrome c.if-syndrome-eq0.false (omega (arith, c.radius-t.ensures, c.if-t-lt1.true))

pub returns-then-is_some : goal.returns-then-is_some
returns-then-is_some c =
    let a = c.args in
    c.of_masks.ensures
    ∙ by-one-letter a.code a.syndrome c.if-syndrome-eq0.false _ c.radius-t.ensures c.if-t-lt1.false _
    c.lone_letter-lone.ensures _ c.is_some.ensures c.then-is_some.either

pub returns : goal.returns
returns c =
    let a = c.args in
    c.correct_by.ensures
    ∙ ap₂ (λ (w : LetterWords) (t : ℕ). correction_by w t a.syndrome) c.syndrome_words-words.ensures c.radius-t.ensures
    ∙ corrections-by-value.by_words a.code a.syndrome
