-- The definitions of this layer at small cases, computed: what the rules say of them in words.
use mathlib.Core.Path.{◌≡◌, refl}
use mathlib.Core.Bool.{true, false}
use mathlib.Core.List.{List, [], ◌∷◌, map}
use mathlib.Core.Logic.{inl, inr}
use lib.Dec.{lit<}
use lib.ListN.{length, replicate}
use Prim.Native.Nat.{◌^◌, ◌-◌}
use Rattle.letters.specs.declared.Letter.{Letter}
use Rattle.letters.specs.declared.Letter.TheVariants.{I, X, Y, Z}
use Rattle.letters.specs.declared.Sign.TheVariants.{Plus, Minus}
use Rattle.pauli.specs.Letters.{signed_row, of_letters, letters_of, is_signed_row, row_text}
use Rattle.letters.specs.Lists.{bytes}
use Rattle.pauli.specs.Masks.{bits}
use Rattle.pauli.specs.Definitions.{definitions}
use Rattle.pauli.specs.Order.{Earlier, SmallerLetter, rank, strings, strings_up_to, weight_of}
use Rattle.pauli.specs.Product.{identity, product, commutes, anticommutes, weight, same_masks, same_pauli}
use Rattle.pauli.specs.Syndrome.{syndrome}

-- ---- products and commutation

-- Y is i times X times Z.
y-is-ixz : product (record { p = 1; a = 0; b = 0 }) (product (of_letters (X ∷ [])) (of_letters (Z ∷ [])))
    ≡ of_letters (Y ∷ [])
unfolding definitions
y-is-ixz = refl

-- Y squares to I
y-squared : product (of_letters (Y ∷ [])) (of_letters (Y ∷ [])) ≡ identity
unfolding definitions
y-squared = refl

-- X times Z is i^3 Y, and Z times X is i Y: Y itself has phase 1.
xz-zx :
    (product (of_letters (X ∷ [])) (of_letters (Z ∷ [])) ≡ record { p = 0; a = 1; b = 1 })
    × (product (of_letters (Z ∷ [])) (of_letters (X ∷ [])) ≡ record { p = 2; a = 1; b = 1 })
unfolding definitions
xz-zx = (refl, refl)

-- XX times ZZ is -YY, and not +YY.
xx-zz : product (of_letters (X ∷ X ∷ [])) (of_letters (Z ∷ Z ∷ [])) ≡ signed_row Minus (Y ∷ Y ∷ [])
unfolding definitions
xx-zz = refl

-- X and Z anticommute, whichever comes first; XX and ZZ commute.
commutation :
    (anticommutes (of_letters (X ∷ [])) (of_letters (Z ∷ [])) ≡ true)
    × (anticommutes (of_letters (Z ∷ [])) (of_letters (X ∷ [])) ≡ true)
    × (commutes (of_letters (X ∷ X ∷ [])) (of_letters (Z ∷ Z ∷ [])) ≡ true)
unfolding definitions
commutation = (refl, refl, refl)

-- X on the first qubit is seen by the first of these rows alone, and on the second by both.
syndromes :
    map (λ s. syndrome (of_letters (Z ∷ Z ∷ I ∷ []) ∷ of_letters (I ∷ Z ∷ Z ∷ []) ∷ []) (of_letters s))
    ((X ∷ I ∷ I ∷ []) ∷ (I ∷ X ∷ I ∷ []) ∷ [])
    ≡ (true ∷ false ∷ []) ∷ (true ∷ true ∷ []) ∷ []
unfolding definitions
syndromes = refl

-- ---- letters, masks and phases

ixyz : List Letter
ixyz = I ∷ X ∷ Y ∷ Z ∷ []

-- X is at qubits 2 and 3, Z at 3 and 4, and the one Y gives the phase.
letters : (of_letters ixyz ≡ record { p = 1; a = 6; b = 12 }) × (letters_of 4 (record { p = 0; a = 6; b = 12 }) ≡ ixyz)
unfolding ixyz definitions
letters = (refl, refl)

bits-lowest-first : bits 5 12 ≡ 0 ∷ 0 ∷ 1 ∷ 1 ∷ 0 ∷ []
unfolding definitions
bits-lowest-first = refl

texts : (row_text 4 (signed_row Minus ixyz) ≡ bytes "-IXYZ") × (row_text 4 (signed_row Plus ixyz) ≡ bytes "+IXYZ")
unfolding ixyz definitions
texts = (refl, refl)

-- a Y counts as one
weights : (weight (of_letters ixyz) ≡ 3) × (weight_of ixyz ≡ 3)
unfolding ixyz definitions
weights = (refl, refl)

-- Y with phases 1, 3 and 5 is +Y, -Y and +Y; with phase 0 it is no signed row.
signed-rows :
    map is_signed_row
    (record { p = 1; a = 1; b = 1 } ∷ record { p = 3; a = 1; b = 1 } ∷ record { p = 5; a = 1; b = 1 }
    ∷ record { p = 0; a = 1; b = 1 } ∷ [])
    ≡ true ∷ true ∷ true ∷ false ∷ []
unfolding definitions
signed-rows = refl

-- Two Paulis are the same, phase aside, where both masks are.
masks-compared :
    map (λ s. same_masks (signed_row Minus (X ∷ Z ∷ [])) (of_letters s))
    ((X ∷ Z ∷ []) ∷ (Z ∷ X ∷ []) ∷ (X ∷ I ∷ []) ∷ (I ∷ Z ∷ []) ∷ (Y ∷ Z ∷ []) ∷ (X ∷ Y ∷ []) ∷ [])
    ≡ true ∷ false ∷ false ∷ false ∷ false ∷ false ∷ []
unfolding definitions
masks-compared = refl

-- Phases are compared modulo 4.
phases-compared :
    map (λ q. same_pauli (record { p = 5; a = 1; b = 0 }) (record { p = q; a = 1; b = 0 })) (1 ∷ 9 ∷ 0 ∷ 3 ∷ [])
    ≡ true ∷ true ∷ false ∷ false ∷ []
unfolding definitions
phases-compared = refl

-- ---- the order

ranks : map rank ixyz ≡ 0 ∷ 1 ∷ 2 ∷ 3 ∷ []
unfolding ixyz definitions
ranks = refl

-- Y is smaller than Z, and a smaller weight comes first
y-before-z : Earlier (I ∷ Y ∷ []) (I ∷ Z ∷ [])
unfolding Earlier SmallerLetter rank definitions
y-before-z = inr (refl, inr (refl, inl (lit< tt)))

lighter-before-heavier : Earlier (Z ∷ I ∷ []) (X ∷ X ∷ [])
unfolding Earlier definitions
lighter-before-heavier = inl (lit< tt)

one-letter : strings 2 1 ≡ (I ∷ X ∷ []) ∷ (I ∷ Y ∷ []) ∷ (I ∷ Z ∷ []) ∷ (X ∷ I ∷ []) ∷ (Y ∷ I ∷ []) ∷ (Z ∷ I ∷ []) ∷ []
unfolding definitions
one-letter = refl

-- 1 + 9 + 27 strings of three letters have weight at most 2
up-to-two : length (strings_up_to 3 2) ≡ 37
unfolding definitions
up-to-two = refl

-- The definitions compute at the largest width too.
y24 : of_letters (replicate 24 Y) ≡ record { p = 0; a = 2 ^ 24 - 1; b = 2 ^ 24 - 1 }
unfolding definitions
y24 = refl

letters24 : letters_of 24 (signed_row Minus (replicate 24 Z)) ≡ replicate 24 Z
unfolding definitions
letters24 = refl
