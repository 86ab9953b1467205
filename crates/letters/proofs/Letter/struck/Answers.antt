-- The arm taken gives the number, and it names the letter.
use mathlib.Core.Path.{◌≡◌, refl, ap, sym}
use Prim.Native.Nat.{ℕ, zero, suc}
use borrow.Author.Rules.{rules}
use Rattle.letters.specs.declared.Letter.TheVariants.{Z}
use Rattle.letters.specs.Letters.{struck_letter}
use Rattle.letters.proofs.Letter.struck.Goals as goal

last : (k : ℕ) → (k ≡ 0 → ⊥) → (k ≡ 1 → ⊥) → Z ≡ struck_letter k
unfolding struck_letter
last zero h j = absurd (h refl)
last (suc zero) h j = absurd (j refl)
last (suc (suc k)) h j = refl

pub returns-in-0 : goal.returns-in-0
unfolding struck_letter
returns-in-0 c = ap struck_letter (sym c.in-0.is)

pub returns-in-1 : goal.returns-in-1
unfolding struck_letter
returns-in-1 c = ap struck_letter (sym c.in-1.is)

pub returns-in_default : goal.returns-in_default
returns-in_default c = last c.args.number (search rules) (search rules)
