-- The numbers of the refusals and the lines that they name, computed of each case.
use mathlib.Core.List.{List, [], ◌∷◌, map}
use mathlib.Core.Path.{◌≡◌, refl}
use Rattle.pauli.specs.Product.{identity}
use Rattle.refusals.specs.declared.Family.{Family}
use Rattle.refusals.specs.declared.Refusal.{Refusal}
use Rattle.refusals.specs.Definitions.{definitions}
use Rattle.refusals.specs.Refusals.{values}

-- Each case at line 8, in the order in which they stand.
cases : List Refusal
cases =
    Refusal.TooLong ∷ Refusal.Form 8 ∷ Refusal.QubitCount 8 ∷ Refusal.DistanceRange 8 ∷ Refusal.GeneratorCount 8
    ∷ Refusal.GeneratorsAnticommute 8 Family.Generator ∷ Refusal.MinusIdentity 8 Family.Generator
    ∷ Refusal.DependentGenerator 8 Family.Generator ∷ Refusal.LogicalAnticommutes 8 Family.LogicalX
    ∷ Refusal.LogicalPairing 8 Family.LogicalZ ∷ Refusal.ClaimedWeight 8 ∷ Refusal.ClaimedAnticommutes 8
    ∷ Refusal.ClaimedInGroup 8 ∷ Refusal.DistanceRefuted 8 (record { n = 0; e = identity; f = identity })
    ∷ Refusal.RecordLimits ∷ Refusal.Syndrome 8 ∷ Refusal.ShortBuffer ∷ []

numbers :
    map (λ refusal. (values refusal).number) cases
    ≡ 1 ∷ 2 ∷ 3 ∷ 4 ∷ 5 ∷ 6 ∷ 7 ∷ 8 ∷ 9 ∷ 10 ∷ 11 ∷ 12 ∷ 13 ∷ 14 ∷ 15 ∷ 16 ∷ 17 ∷ []
unfolding cases definitions
numbers = refl

-- 1, 15 and 17 name no line.
lines-named :
    map (λ refusal. (values refusal).line) cases
    ≡ 0 ∷ 8 ∷ 8 ∷ 8 ∷ 8 ∷ 8 ∷ 8 ∷ 8 ∷ 8 ∷ 8 ∷ 8 ∷ 8 ∷ 8 ∷ 8 ∷ 0 ∷ 8 ∷ 0 ∷ []
unfolding cases definitions
lines-named = refl
