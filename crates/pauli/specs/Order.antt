-- The order "earlier" on strings of letters, and all strings of a weight in that order. RULES, "Order": the lighter
-- string is earlier; at equal weight the one with the smaller letter where they first differ.
use Rattle.std.specs.Prelude.{◌≡◌, ◌⊎◌, ℕ, zero, suc, ◌+◌, ◌<◌, replicate}
use mathlib.Core.List.{List, [], ◌∷◌, ◌++◌, map, flat_map}
use Rattle.letters.specs.declared.Letter.{Letter}
use Rattle.letters.specs.declared.Letter.TheVariants.{I, X, Y, Z}

-- The letters I, X, Y, Z in their order.
unfoldable pub rank : Letter → ℕ
rank I = 0
rank X = 1
rank Y = 2
rank Z = 3

-- RULES, "Letters and rows": the weight is the number of letters other than I.
unfoldable pub letter_weight : Letter → ℕ
letter_weight I = 0
letter_weight X = 1
letter_weight Y = 1
letter_weight Z = 1

unfoldable pub weight_of : List Letter → ℕ
weight_of [] = 0
weight_of (l ∷ ls) = letter_weight l + weight_of ls

-- At the first qubit where the two strings differ, the first has the smaller letter.
unfoldable pub SmallerLetter : List Letter → List Letter → Type 0
SmallerLetter [] [] = ⊥
SmallerLetter [] (m ∷ ms) = ⊥
SmallerLetter (l ∷ ls) [] = ⊥
SmallerLetter (l ∷ ls) (m ∷ ms) = (rank l < rank m) ⊎ ((l ≡ m) × SmallerLetter ls ms)

unfoldable pub Earlier : List Letter → List Letter → Type 0
Earlier s t = (weight_of s < weight_of t) ⊎ ((weight_of s ≡ weight_of t) × SmallerLetter s t)

-- All strings of n letters with weight v, the earliest first: those that begin with I, then those that begin with X, Y,
-- Z.
unfoldable pub strings : ℕ → ℕ → List (List Letter)
strings n zero = replicate n I ∷ []
strings zero (suc v) = []
strings (suc n) (suc v) =
    map (λ s. I ∷ s) (strings n (suc v)) ++ flat_map (λ l. map (λ s. l ∷ s) (strings n v)) (X ∷ Y ∷ Z ∷ [])

-- All strings of n letters with weight at most t, the earliest first.
unfoldable pub strings_up_to : ℕ → ℕ → List (List Letter)
strings_up_to n zero = strings n zero
strings_up_to n (suc t) = strings_up_to n t ++ strings n (suc t)
