-- Searches through lists, and bytes read as letters and signs, computed at small cases.
use Rattle.std.specs.Prelude.{Some, None}
use mathlib.Core.Path.{◌≡◌, refl}
use mathlib.Core.Bool.{true, false}
use mathlib.Core.List.{[], ◌∷◌, map}
use lib.Dec.{leb}
use Rattle.letters.specs.declared.Letter.TheVariants.{I, X, Y, Z}
use Rattle.letters.specs.declared.Sign.TheVariants.{Plus, Minus}
use Rattle.letters.specs.Definitions.{definitions}
use Rattle.letters.specs.Letters.{read_letter, read_sign}
use Rattle.letters.specs.Lists.{first_of, any_of, all_of, bytes}

searches :
    (first_of (λ m. leb 2 m) (1 ∷ 3 ∷ 2 ∷ []) ≡ Some 3) × (any_of (λ m. leb 3 m) (1 ∷ 3 ∷ 2 ∷ []) ≡ true)
    × (all_of (λ m. leb m 2) (1 ∷ 2 ∷ 3 ∷ []) ≡ false)
unfolding definitions
searches = (refl, refl, refl)

bytes_read :
    (map read_letter (bytes "IXYZx.") ≡ Some I ∷ Some X ∷ Some Y ∷ Some Z ∷ None ∷ None ∷ [])
    × (map read_sign (bytes "+- ") ≡ Some Plus ∷ Some Minus ∷ None ∷ [])
unfolding definitions
bytes_read = (refl, refl)
