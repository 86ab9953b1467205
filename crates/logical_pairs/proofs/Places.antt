-- The first place that passes a test, place by place.
use mathlib.Core.Bool.{Bool, true, false}
use mathlib.Core.Path.{◌≡◌, ap, sym, ◌∙◌}
use Prim.Native.Nat.{ℕ, suc, ◌+◌, ◌-◌, ◌<◌, ◌≤◌}
use native.Mathlib.Numerals.{add-one}
use native.Mathlib.Omega.{arith}
use Rattle.logical_pairs.specs.FirstPlace.{first_place}

module _ (test : ℕ → Bool) (place count : ℕ) where
  abbrev pub PlaceFrom : ℕ
  PlaceFrom = first_place test place (count - place)

  by-test : {t : Bool} → test place ≡ t → place < count
      → elim t [ true ↦ place | false ↦ first_place test (suc place) (count - (place + 1)) ] ≡ PlaceFrom
  unfolding first_place
  by-test e inside =
      let more : suc (count - (place + 1)) ≡ count - place = omega (arith, inside) in
      ap (λ t. elim t [ true ↦ place | false ↦ first_place test (suc place) (count - (place + 1)) ]) (sym e)
      ∙ ap (first_place test place) more

  pub place_here : test place ≡ true → place < count → place ≡ PlaceFrom
  place_here e inside = by-test e inside

  pub place-later : test place ≡ false → place < count
      → first_place test (place + 1) (count - (place + 1)) ≡ PlaceFrom
  place-later e inside =
      ap (λ (next : ℕ). first_place test next (count - (place + 1))) (add-one place) ∙ by-test e inside

  pub place_end : count ≤ place → place ≡ PlaceFrom
  unfolding first_place
  place_end behind =
      let none : 0 ≡ count - place = omega (arith, behind) in
      ap (first_place test place) none
