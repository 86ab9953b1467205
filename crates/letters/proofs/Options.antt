-- Where a value that follows from another is there, the other one is.
use Rattle.std.specs.Prelude.{Option, Some, None}
use Rattle.std.proofs.Common.{◌≡◌, refl, sym}
use Rattle.std.specs.Option.{option_map}
use Rattle.std.proofs.lemmas.Option.{none-some, same_Some}
use Rattle.letters.specs.Options.{bind}

module _ {A B : Type 0} where
  pub map-some : (f : A → B) (o : Option A) {b : B} → (option_map f o ≡ Some b)
      → (a : A) × (o ≡ Some a) × (f a ≡ b)
  map-some f None {b} e = absurd (none-some b e)
  map-some f (Some a) {b} e = (a, refl, same_Some (f a) b e)

  pub bind-some : (o : Option A) (g : A → Option B) {b : B} → bind o g ≡ Some b
      → (a : A) × (o ≡ Some a) × (g a ≡ Some b)
  unfolding bind
  bind-some None g {b} e = absurd (none-some b e)
  bind-some (Some a) g {b} e = (a, refl, e)

  pub map-none : (f : A → B) (o : Option A) → option_map f o ≡ None → o ≡ None
  map-none f None e = refl
  map-none f (Some a) e = absurd (none-some (f a) (sym e))

pub some-none : {A : Type 0} (a : A) → Some a ≡ None → ⊥
some-none a e = none-some a (sym e)
