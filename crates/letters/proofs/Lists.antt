-- Reading a byte as one of some values: those that are written otherwise are passed over.
use mathlib.Core.Path.{◌≡◌}
use mathlib.Core.List.{List, ◌∷◌}
use Prim.Native.Nat.{ℕ}
use borrow.Author.Tests.{ne_eqb}
use Rattle.letters.specs.Lists.{first_of, read_byte}

pub read_byte-skip : {A : Type 0} (byte : A → ℕ) (a : A) (values : List A) (c : ℕ) → (c ≡ byte a → ⊥)
    → read_byte byte (a ∷ values) c ≡ read_byte byte values c
unfolding read_byte first_of
read_byte-skip byte a values c other = rw (ne_eqb c (byte a) other, first_of)
