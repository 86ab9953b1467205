-- What the contracts of reading and printing cite.
use Rattle.std.specs.Prelude.{Option, Some, None, cond, ◌≡◌, ℕ, zero, suc, ◌+◌, ◌*◌, ◌%◌, ◌≤◌, eqb, length, take}
use mathlib.Core.List.{List, foldl, foldr}
use Prim.Native.Char.{code}
use Rattle.test_cases.specs.declared.Case.{Case}

-- The number that digits say, the highest first. The remainder of a digit's byte by 16 is the digit.
unfoldable pub said : List ℕ → ℕ
said = foldl (λ m c. m * 10 + c % 16) 0

-- So many bytes are the start of the list.
abbrev pub IsPrefixLen : ℕ → List ℕ → Type 0
IsPrefixLen n xs = (n ≤ length xs) × (n ≡ length (take n xs))

-- The text of a case lies at the start of the bytes.
abbrev pub Within : Option Case → List ℕ → Type 0
Within (Some case) s = IsPrefixLen case.len s
Within None s = Unit {0}

-- What a buffer holds before a writer is lent it, and how many bytes it has at most.
abbrev pub dot : ℕ
dot = code "."

abbrev pub buffer_room : ℕ
buffer_room = 1360

-- A byte counts, but for a dot behind which none does.
unfoldable pub counted : ℕ → ℕ → ℕ
counted c zero = cond (eqb c dot) 0 1
counted c (suc m) = suc (suc m)

-- How many bytes there are up to the last that is no dot.
unfoldable pub shown : List ℕ → ℕ
shown = foldr counted 0
