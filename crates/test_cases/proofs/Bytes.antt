-- One byte more at the end: what digits say, and how many bytes are shown. Both are folds, so the byte goes in by the
-- law of a fold over an append.
use mathlib.Core.List.{List, [], ◌∷◌, ◌++◌, foldr, foldl-append, foldr-append}
use mathlib.Core.Path.{◌≡◌, refl, ap, sym, ◌∙◌}
use Prim.Native.Nat.{ℕ, suc, ◌+◌, ◌-◌, ◌*◌, ◌/◌, ◌%◌, ◌<◌, ◌≤◌}
use native.Mathlib.Numerals.{add-one}
use native.Mathlib.Omega.{arith}
use borrow.Author.Tests.{ne_eqb}
use lib.Dec.{eqb}
use lib.ListN.{length, take, get_or}
use lib.Seq.{take-suc, take-length, length-take-le}
use Rattle.pauli.proofs.Modulo.{same-remainder}
use Rattle.test_cases.specs.Cases.{said, dot, counted, shown}

pub said_more : (s : List ℕ) (i : ℕ) → i < length s
    → (said (take i s) % 1000000 * 10 + get_or s i 0 % 16) % 1000000 ≡ said (take (i + 1) s) % 1000000
unfolding said
said_more s i h =
    let m = said (take i s) in
    same-remainder 1000000 _ (m * 10 + get_or s i 0 % 16) (m / 1000000 * 10) 0 (omega arith)
    ∙ ap (λ m. m % 1000000) (rw (add-one, take-suc s i 0, foldl-append) refl)

-- All bytes in front of one that is shown are.
all-before : (s : List ℕ) (m : ℕ) → foldr counted (suc m) s ≡ suc (length s + m)
unfolding counted
all-before [] m = omega arith
all-before (c ∷ s) m = rw (all-before s m) (omega arith)

pub shown-nothing : (s : List ℕ) → length s < 1 → length s ≡ shown s
unfolding shown
shown-nothing [] none_left = refl
shown-nothing (c ∷ s) none_left = absurd (omega arith)

module _ (s : List ℕ) (some_byte : 1 ≤ length s) where
  all_taken : take (length s - 1) s ++ get_or s (length s - 1) 0 ∷ [] ≡ s
  all_taken =
      let e : suc (length s - 1) ≡ length s = omega arith in
      sym (take-suc s (length s - 1) 0 (omega arith)) ∙ ap (λ m. take m s) e ∙ take-length s

  pub shown-before-dot : get_or s (length s - 1) 0 ≡ dot → shown (take (length s - 1) s) ≡ shown s
  unfolding shown counted
  shown-before-dot e = rw (foldr-append, e) refl ∙ ap shown all_taken

  pub shown-to-other : (get_or s (length s - 1) 0 ≡ dot → ⊥) → length s ≡ shown s
  unfolding shown counted
  shown-to-other other =
      let whole = length-take-le (length s - 1) s (omega arith) in
      rw (foldr-append, ne_eqb _ dot other, all-before) (omega (arith, whole)) ∙ ap shown all_taken
