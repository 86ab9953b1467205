-- Searches through a list, each of which stops at the first element that settles it, and the bytes of texts.
use Rattle.std.specs.Prelude.{Option, Some, None, Bool, true, false, ℕ, eqb}
use Rattle.std.proofs.Math.Bool.{Bool-discrete}
use mathlib.Core.List.{List, [], ◌∷◌, filter}
use Prim.Native.Char.{code}
use Prim.Native.String.{String, [] as ε, ◌∷◌ as ◌▸◌}

module _ {A : Type 0} where
  -- the first element that passes the test
  unfoldable pub first_of : (A → Bool) → List A → Option A
  first_of test [] = None
  first_of test (x ∷ xs) = elim (test x) [ true ↦ Some x | false ↦ first_of test xs ]

  -- some element passes the test
  unfoldable pub any_of : (A → Bool) → List A → Bool
  any_of test [] = false
  any_of test (x ∷ xs) = elim (test x) [ true ↦ true | false ↦ any_of test xs ]

  -- every element passes the test
  unfoldable pub all_of : (A → Bool) → List A → Bool
  all_of test [] = true
  all_of test (x ∷ xs) = elim (test x) [ true ↦ all_of test xs | false ↦ false ]

  -- the elements that pass the test
  unfoldable pub passing : (A → Bool) → List A → List A
  passing test xs = filter (λ x. Bool-discrete (test x) true) xs

  -- the one of these values that is written as the byte c
  unfoldable pub read_byte : (A → ℕ) → List A → ℕ → Option A
  read_byte byte values c = first_of (λ a. eqb c (byte a)) values

-- The bytes of a text of plain characters: a character's byte is its code.
unfoldable pub bytes : String → List ℕ
bytes ε = []
bytes (c ▸ s) = code c ∷ bytes s
