-- What is known of a reader's outcome: of a value and the rest of the bytes, and of a refusal. Such a fact passes from
-- step to step of a reader as its bytes do.
use Rattle.std.specs.Prelude.{Option, Some, None}
use mathlib.Core.Bool.{Bool, true, false, cond}
use mathlib.Core.List.{List, ◌++◌}
use mathlib.Core.Path.{◌≡◌, refl}
use Prim.Native.Nat.{ℕ}
use Rattle.refusals.specs.declared.Refusal.{Refusal}
use Rattle.sheet.specs.Reader.{Parsed, got, stop, Reader, continue, got_or}

pub data Outcome {A : Type 0} (Got : A → List ℕ → Type 0) (Stop : Refusal → Type 0) : Parsed A → Type 0 where
  gets : {a : A} {rest : List ℕ} → Got a rest → Outcome Got Stop (got a rest)
  stops : {refusal : Refusal} → Stop refusal → Outcome Got Stop (stop refusal)

module _ {A : Type 0} {Got : A → List ℕ → Type 0} {Stop : Refusal → Type 0} where
  pub what_was-got : {p : Parsed A} → Outcome Got Stop p → {a : A} {rest : List ℕ} → p ≡ got a rest → Got a rest
  what_was-got h e = of-got (rw e at h)
    where
      of-got : {a : A} {rest : List ℕ} → Outcome Got Stop (got a rest) → Got a rest
      of-got (gets h) = h

  pub continue-outcome : {B : Type 0} {Then : B → List ℕ → Type 0} {p : Parsed A} {next : A → Reader B}
      → Outcome Got Stop p → ((a : A) (s : List ℕ) → Got a s → Outcome Then Stop (next a s))
      → Outcome Then Stop (continue p next)
  unfolding continue
  continue-outcome (gets h) k = k _ _ h
  continue-outcome (stops h) k = stops h

  pub cond-outcome : (test : Bool) {p q : Parsed A} → (test ≡ true → Outcome Got Stop p)
      → (test ≡ false → Outcome Got Stop q) → Outcome Got Stop (cond test p q)
  cond-outcome true hp hq = hp refl
  cond-outcome false hp hq = hq refl

  pub got_or-outcome : (o : Option A) (rest : List ℕ) (refusal : Refusal) → ((a : A) → o ≡ Some a → Got a rest)
      → Stop refusal → Outcome Got Stop (got_or refusal o rest)
  unfolding got_or
  got_or-outcome None rest refusal h r = stops r
  got_or-outcome (Some a) rest refusal h r = gets (h a refl)

-- What was read of s is the value's text, and the value is lawful.
pub record Took {A : Type 0} (text : A → List ℕ) (Law : A → Type 0) (s : List ℕ) (a : A) (rest : List ℕ) : Type 0 where
  pub lawful : Law a
  pub bytes_read : s ≡ text a ++ rest
