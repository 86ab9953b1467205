-- The lines of rows as readers of what is left after some of them.
use mathlib.Core.Bool.{Bool, true, false, cond}
use mathlib.Core.List.{List, [], ◌∷◌}
use mathlib.Core.Path.{◌≡◌, refl, ap, ◌∙◌}
use Prim.Native.Nat.{ℕ, zero, suc, ◌+◌, ◌-◌, ◌<◌, ◌≤◌}
use Prim.Native.String.{String}
use native.Mathlib.Omega.{arith}
use Rattle.pauli.specs.declared.Pauli.{Pauli}
use Rattle.letters.specs.Lists.{bytes}
use Rattle.refusals.specs.declared.Refusal.{Refusal}
use Rattle.sheet.specs.Reader.{Reader, got, stop, done, continue, begins, row_line, rows_up_to}
use Rattle.sheet.proofs.Reading.{then-stop}
use Rattle.row_reader.proofs.Answers.{row-not-begun}

-- A line that has a row begins with its key.
pub row-begins : (key : String) (n at : ℕ) {row : Pauli} (s rest : List ℕ) → row_line key n at s ≡ got row rest
    → begins (bytes key) s ≡ true
row-begins key n at {row} s rest e = by_key (begins (bytes key) s) refl
  where
    by_key : (b : Bool) → begins (bytes key) s ≡ b → begins (bytes key) s ≡ true
    by_key true f = f
    by_key false f =
        let stops = row-not-begun key n at s f in absurd (let z : ◌≡◌ {A = ℕ} 0 1 = cc in omega arith)

-- What a reader gives, with a row before it.
abbrev pub row_behind : Reader (List Pauli) → Pauli → Reader (List Pauli)
row_behind rest row s = continue (rest s) (λ rows. done (row ∷ rows))

-- The reader of the lines that are left after some.
unfoldable pub rows_left : String → ℕ → ℕ → ℕ → ℕ → Reader (List Pauli)
rows_left key n most at count = rows_up_to (most - count) key n (at + count)

-- One line more, where it begins with the key.
pub next-line : (key : String) (n most at : ℕ) (s : List ℕ) → begins (bytes key) s ≡ true
    → rows_up_to (suc most) key n at s ≡ continue (row_line key n at s) (row_behind (rows_up_to most key n (at + 1)))
unfolding rows_up_to
next-line key n most at s begun =
    ap (λ b. cond b (continue (row_line key n at s) (row_behind (rows_up_to most key n (at + 1)))) (got [] s)) begun

module _ (key : String) (n most at count : ℕ) (s : List ℕ) where
  pub rows-full : most ≤ count → rows_left key n most at count s ≡ got [] s
  unfolding rows_left rows_up_to
  rows-full h = let none : most - count ≡ 0 = omega arith in ap (λ m. rows_up_to m key n (at + count) s) none

  pub rows-ended : begins (bytes key) s ≡ false → rows_left key n most at count s ≡ got [] s
  unfolding rows_left rows_up_to
  rows-ended e = ends (most - count)
    where
      ends : (left : ℕ) → rows_up_to left key n (at + count) s ≡ got [] s
      ends zero = refl
      ends (suc left) = rw e

  pub rows-refused : {refusal : Refusal} → count < most → begins (bytes key) s ≡ true
      → row_line key n (at + count) s ≡ stop refusal → rows_left key n most at count s ≡ stop refusal
  unfolding rows_left
  rows-refused more begun e =
      let one : most - count ≡ suc (most - (count + 1)) = omega arith in
      ap (λ m. rows_up_to m key n (at + count) s) one
      ∙ next-line key n (most - (count + 1)) (at + count) s begun
      ∙ then-stop (row_behind (rows_up_to (most - (count + 1)) key n (at + count + 1))) e
