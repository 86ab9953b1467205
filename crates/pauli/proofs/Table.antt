-- A table of examples: two functions that agree on the whole table, which is computed at once, agree on each entry.
use mathlib.Core.List.Memᴰ
use mathlib.Core.List.{List, [], ◌∷◌, map, head-eq_of_cons-eq, tail-eq_of_cons-eq, Memᴰ}
use mathlib.Core.Logic.{⊎_elim}
use mathlib.Core.Path.{◌≡◌, ap, sym, ◌∙◌}

pub each : {A B : Type 0} (f g : A → B) (table : List A) → map f table ≡ map g table → (x : A) → Memᴰ x table
    → f x ≡ g x
each f g [] all x m = absurd (Memᴰ.not-nil m)
each f g (y ∷ table) all x m =
    ⊎_elim (λ e. ap f e ∙ head-eq_of_cons-eq all ∙ sym (ap g e))
    (λ later. each f g table (tail-eq_of_cons-eq all) x later)
    (Memᴰ.cases_cons m)
