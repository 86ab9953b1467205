-- How many bytes a reader took, from the rest that it gives; and how its outcome goes on to the next reader.
use mathlib.Core.List.{List}
use mathlib.Core.Path.{◌≡◌, ap}
use Prim.Native.Nat.{ℕ, ◌-◌, ◌≤◌}
use native.Mathlib.Omega.{arith}
use lib.ListN.{length, drop, length-drop}
use Rattle.refusals.specs.declared.Refusal.{Refusal}
use Rattle.sheet.specs.Reader.{Parsed, Reader, got, stop, continue}

pub bytes-used : (s : List ℕ) (used : ℕ) → used ≤ length s → used ≡ length s - length (drop used s)
bytes-used s used h = omega (arith, length-drop used s)

-- A value goes on to the next reader, and a refusal ends the reading.
module _ {A B : Type 0} {p : Parsed A} (next : A → Reader B) where
  pub then-got : {a : A} {rest : List ℕ} → p ≡ got a rest → continue p next ≡ next a rest
  unfolding continue
  then-got e = ap (λ q. continue q next) e

  pub then-stop : {refusal : Refusal} → p ≡ stop refusal → continue p next ≡ stop refusal
  unfolding continue
  then-stop e = ap (λ q. continue q next) e
