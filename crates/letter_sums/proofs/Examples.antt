-- Searches on two qubits, computed from the definition. Strings are shown by their masks: the first qubit is the lowest
-- bit.
use Rattle.std.specs.Prelude.{None}
use Rattle.letter_sums.specs.Sums.{masks_at}
use mathlib.Core.List.{List, [], ◌∷◌}
use mathlib.Core.Path.{◌≡◌, refl}
use Prim.Native.Nat.{ℕ}
use Rattle.letter_sums.specs.declared.LetterWords.{LetterWords}
use Rattle.letter_sums.specs.Sums.{earliest_by}
use Rattle.letter_sums.specs.Definitions.{definitions}

abbrev two : List ℕ → List ℕ → LetterWords
two first second = record { qubits = 2; first = first; second = second }

-- No two strings have the same sum: X, Y, Z are 1, 2, 3 on the last qubit and 4, 8, 12 on the first.
abbrev different : LetterWords
different = two (1 ∷ 2 ∷ 3 ∷ 4 ∷ 8 ∷ 12 ∷ []) (0 ∷ 0 ∷ 0 ∷ 0 ∷ 0 ∷ 0 ∷ [])

-- IY, ZI and YX; none where the weight or the words do not allow it.
found :
    (earliest_by different 2 2 1 ≡ masks_at 2 2) × (earliest_by different 2 12 1 ≡ masks_at 0 1)
    × (earliest_by different 2 9 1 ≡ masks_at 3 1) × (earliest_by different 1 9 1 ≡ None)
    × (earliest_by different 2 16 1 ≡ None)
unfolding definitions
found = (refl, refl, refl, refl, refl)

-- II is found first, unless its second words, which are 0, are shunned.
identity-found :
    (earliest_by different 2 0 1 ≡ masks_at 0 0) × (earliest_by different 2 0 0 ≡ None)
unfolding definitions
identity-found = (refl, refl)

-- A letter has the same first word on both qubits, so the second words decide. IX and XI have 5 and 6 there.
abbrev same : LetterWords
same = two (1 ∷ 2 ∷ 3 ∷ 1 ∷ 2 ∷ 3 ∷ []) (5 ∷ 0 ∷ 0 ∷ 6 ∷ 0 ∷ 7 ∷ [])

-- IX is the earlier; XI where it is shunned. XX, YY and ZZ sum to 0, and XX is the first whose second words do not.
second-words-decide :
    (earliest_by same 2 1 9 ≡ masks_at 2 0) × (earliest_by same 2 1 5 ≡ masks_at 1 0)
    × (earliest_by same 2 0 0 ≡ masks_at 3 0)
unfolding definitions
second-words-decide = (refl, refl, refl)
