-- Checks one after the other: a refusal is the first fault of all, and where one passes the next decides.
use Rattle.std.specs.Prelude.{Option, Some, None, Result, Ok, Err}
use Rattle.std.specs.Result.{result_err}
use mathlib.Core.Path.{◌≡◌, refl, ap, sym, ◌∙◌}
use Rattle.refusals.specs.declared.Refusal.{Refusal}
use Rattle.refusals.specs.Refusals.{◌then◌}

module _ (fault next : Option Refusal) where
  pub fault_first : {refusal : Refusal} → Some refusal ≡ fault → Some refusal ≡ (fault then next)
  unfolding ◌then◌
  fault_first e = ap (λ f. f then next) e

  pub none_first : None ≡ fault → next ≡ (fault then next)
  unfolding ◌then◌
  none_first e = ap (λ f. f then next) e

module _ (fault next : Option Refusal) {checked : Result Unit Refusal} (known : result_err checked ≡ fault) where
  pub refused-first : {refusal : Refusal} → checked ≡ Err refusal → result_err checked ≡ (fault then next)
  refused-first told = ap result_err told ∙ fault_first fault next (ap result_err (sym told) ∙ known)

  pub passed_first : checked ≡ Ok tt → next ≡ (fault then next)
  passed_first told = none_first fault next (ap result_err (sym told) ∙ known)

pub then-assoc : (a b c : Option Refusal) → ((a then b) then c) ≡ (a then b then c)
unfolding ◌then◌
then-assoc None b c = refl
then-assoc (Some refusal) b c = refl

pub first-none : (a b : Option Refusal) → (a then b) ≡ None → a ≡ None
unfolding ◌then◌
first-none None b e = refl
first-none (Some refusal) b e = e

-- 15, the generators, the logicals, w and the distance in their order, in twos as they are checked.
pub in_order : (limits generators detected paired claim distance : Option Refusal)
    → ((limits then generators) then (detected then paired) then claim then distance)
    ≡ (limits then (generators then detected then paired then claim) then distance)
unfolding ◌then◌
in_order (Some refusal) generators detected paired claim distance = refl
in_order None (Some refusal) detected paired claim distance = refl
in_order None None (Some refusal) paired claim distance = refl
in_order None None None (Some refusal) claim distance = refl
in_order None None None None claim distance = refl
