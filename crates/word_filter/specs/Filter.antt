-- A filter of words: the first place of a word for each slot.
use Rattle.std.specs.Prelude.{Bool, true, List, [], ◌∷◌, ℕ, zero, suc, ◌/◌, ◌%◌, ◌<◌, ◌≤◌, eqb, ltb, length, get_or}
use Rattle.std.specs.Prelude.{set, replicate}
use Rattle.std.specs.Int.Bits.{bit_xor}

-- The slot of a word, below 4,096.
abbrev pub slot_of : ℕ → ℕ
slot_of word = bit_xor word (word / 4096) % 4096

-- No slot has a word: 255 is no place of one.
unfoldable pub no_places : List ℕ
no_places = replicate 4096 255

-- For each slot the first place of a word that has it, where the places of the words begin at `place`.
unfoldable pub places_from : ℕ → List ℕ → List ℕ
places_from place [] = no_places
places_from place (w ∷ words) = set (places_from (suc place) words) (slot_of w) place

unfoldable pub first_places : List ℕ → List ℕ
first_places words = places_from 0 words

-- A table that may be shorter tells less, but nothing wrong: no word is before the place at its slot. Behind the
-- table's end that place is 0.
unfoldable pub NoneBefore : List ℕ → List ℕ → Type 0
NoneBefore places words = (j : ℕ) → j < length words → get_or places (slot_of (get_or words j 0)) 0 ≤ j

-- Whether so many letters may sum to the wanted word, where their own words have places below `end`. Without a letter
-- the sum is 0, and one letter has a word with the slot of the wanted one.
unfoldable pub may_end : List ℕ → ℕ → ℕ → ℕ → Bool
may_end places zero end want = eqb want 0
may_end places (suc zero) end want = ltb (get_or places (slot_of want) 0) end
may_end places (suc (suc more)) end want = true
