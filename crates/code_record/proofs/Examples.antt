-- The limits of a record, computed at small cases.
use mathlib.Core.Bool.{true, false}
use mathlib.Core.List.{List, [], ◌∷◌, map}
use mathlib.Core.Path.{◌≡◌, refl}
use Prim.Native.Nat.{ℕ}
use Rattle.letters.specs.declared.Letter.TheVariants.{I, X, Z}
use Rattle.letters.specs.declared.Sign.TheVariants.{Minus}
use Rattle.pauli.specs.declared.Pauli.{Pauli}
use Rattle.pauli.specs.Letters.{signed_row, of_letters}
use Rattle.letters.specs.Lists.{all_of, any_of}
use Rattle.pauli.specs.Product.{identity}
use Rattle.code_record.specs.declared.Code.{Code}
use Rattle.code_record.specs.Definitions.{definitions}
use Rattle.code_record.specs.Record.{row_room, code_of, empty_code, filled, within_limits, radius}

zz : Pauli
zz = of_letters (Z ∷ Z ∷ [])

xx : Pauli
xx = of_letters (X ∷ X ∷ [])

zi : Pauli
zi = of_letters (Z ∷ I ∷ [])

-- On two qubits: a bit above the second, in either mask; and a phase that no signed row has.
above-a : Pauli
above-a = record { p = 0; a = 4; b = 0 }

above-b : Pauli
above-b = record { p = 0; a = 0; b = 4 }

turned : Pauli
turned = record { p = 1; a = 3; b = 0 }

-- The record of K, with some of its values changed.
code_k : (n d : ℕ) → (g x z w : Pauli) → Code
code_k n d g x z w = code_of n d (g ∷ []) (x ∷ []) (z ∷ []) w

-- t, for each d
radii : map (λ d. radius (code_k 2 d zz xx zi zi)) (1 ∷ 2 ∷ 3 ∷ 4 ∷ 5 ∷ 6 ∷ 7 ∷ []) ≡ 0 ∷ 0 ∷ 1 ∷ 1 ∷ 2 ∷ 2 ∷ 3 ∷ []
unfolding code_k definitions
radii = refl

inside : List Code
inside =
    code_k 2 1 zz xx zi zi ∷ code_k 2 7 zz xx zi zi ∷ code_k 24 1 zz xx zi zi
    ∷ code_k 2 1 (signed_row Minus (Z ∷ Z ∷ [])) xx (record { p = 4; a = 0; b = 1 }) (record { p = 8; a = 0; b = 1 }) ∷
    []

outside : List Code
outside =
    code_k 25 1 zz xx zi zi ∷ code_k 1 1 identity identity identity identity
    ∷ code_k 2 0 zz xx zi zi ∷ code_k 2 8 zz xx zi zi
    -- r is 0, and n
    ∷ code_of 2 1 [] (xx ∷ []) (zi ∷ []) zi ∷ code_of 2 1 (zz ∷ xx ∷ []) [] [] zi
    ∷ code_k 2 1 above-a xx zi zi ∷ code_k 2 1 above-b xx zi zi ∷ code_k 2 1 zz above-a zi zi ∷ code_k 2 1 zz xx above-b
    zi
    ∷ code_k 2 1 zz xx zi above-a ∷ code_k 2 1 zz xx zi above-b
    ∷ code_k 2 1 turned xx zi zi ∷ code_k 2 1 zz turned zi zi ∷ code_k 2 1 zz xx turned zi
    -- w has sign -
    ∷ code_k 2 1 zz xx zi (signed_row Minus (Z ∷ I ∷ []))
    -- an unused row is not I: of x, of z, of g
    ∷ code_of 2 1 (zz ∷ []) (xx ∷ xx ∷ []) (zi ∷ []) zi ∷ code_of 2 1 (zz ∷ []) (xx ∷ []) (zi ∷ zi ∷ []) zi
    ∷ record {
      n = 2;
      r = 1;
      d = 1;
      g = filled row_room (zz ∷ zz ∷ []);
      x = filled row_room (xx ∷ []);
      z = filled row_room (zi ∷ []);
      w = zi;
    }
    ∷ empty_code ∷ []

limits : (all_of within_limits inside ≡ true) × (any_of within_limits outside ≡ false)
unfolding inside outside code_k zz xx zi above-a above-b turned definitions
limits = (refl, refl)

-- The empty record has 0 for each number.
empty-numbers : (empty_code.n ≡ 0) × (empty_code.r ≡ 0) × (empty_code.d ≡ 0)
unfolding definitions
empty-numbers = (refl, refl, refl)
