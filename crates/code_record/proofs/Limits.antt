-- What the limits of a record say: the test of each limit, taken from the one test that joins them, as a fact on the
-- record's numbers and rows.
use Rattle.std.specs.Prelude.{Option}
use Rattle.std.specs.List.{list_all}
use mathlib.Core.Path.{◌≡◌, refl, ap, sym, ◌∙◌}
use mathlib.Core.Bool.{Bool, true, false, not, ◌&&◌, ◌||◌, and-eq-true_iff, false≢true}
use mathlib.Core.List.{List, [], ◌∷◌}
use mathlib.Core.Logic.{◌⊎◌}
use Prim.Native.Nat.{ℕ, ◌^◌, ◌≤◌, ◌<◌}
use native.Mathlib.Omega.{arith}
use Rattle.std.proofs.lemmas.Bool.Decides.{nat_tests}
use borrow.Author.Tests.{ltb-true}
use lib.Dec.{ltb}
use lib.ListN.{take, drop}
use Rattle.pauli.specs.declared.Pauli.{Pauli}
use Rattle.letters.specs.Lists.{all_of}
use Rattle.pauli.specs.Product.{identity, same_pauli}
use Rattle.refusals.specs.declared.Refusal.{Refusal}
use Rattle.refusals.specs.Refusals.{refuse_if, ◌then◌}
use Rattle.code_record.specs.declared.Code.{Code}
use Rattle.code_record.specs.Record.{most_qubits, most_distance, most_generators, logical_count}
use Rattle.code_record.specs.Record.{between, on_qubits, is_row, is_claim, are_rows, within_limits, limits_fault}

-- ---- tests

pub both : (a b : Bool) → (a && b) ≡ true → (a ≡ true) × (b ≡ true)
both a b = (and-eq-true_iff a b).0

pub neither : (a b : Bool) → (a || b) ≡ false → (a ≡ false) × (b ≡ false)
neither true b h = absurd (false≢true (sym h))
neither false b h = (refl, h)

module _ {A : Type 0} (test : A → Bool) (x : A) (xs : List A) where
  pub all_first : all_of test (x ∷ xs) ≡ (test x && all_of test xs)
  unfolding all_of
  all_first = go (test x)
    where
      go : (t : Bool) → elim t [ true ↦ all_of test xs | false ↦ false ] ≡ (t && all_of test xs)
      go true = refl
      go false = refl

  pub all_cons : all_of test (x ∷ xs) ≡ true → (test x ≡ true) × (all_of test xs ≡ true)
  all_cons h = both (test x) (all_of test xs) (sym all_first ∙ h)

-- The library's test of all, which joins the tests.
pub all_listed : {A : Type 0} (test : A → Bool) (xs : List A) → all_of test xs ≡ list_all test xs
unfolding all_of
all_listed test [] = refl
all_listed test (x ∷ xs) = all_first test x xs ∙ ap (λ t. test x && t) (all_listed test xs)

module _ (low high m : ℕ) where
  pub between-bounds : between low high m ≡ true → (low ≤ m) × (m ≤ high)
  unfolding between
  between-bounds h = grind (arith, nat_tests)

  pub bounds-between : low ≤ m → m ≤ high → between low high m ≡ true
  unfolding between
  bounds-between hl hh = grind (arith, nat_tests)

  pub outside-between : (m < low) ⊎ (high < m) → between low high m ≡ false
  unfolding between
  outside-between h = grind (arith, nat_tests)

pub on-qubits : (n : ℕ) (P : Pauli) → on_qubits n P ≡ true → (P.a < 2 ^ n) × (P.b < 2 ^ n)
unfolding on_qubits
on-qubits n P h = let b = both (ltb P.a (2 ^ n)) (ltb P.b (2 ^ n)) h in omega (arith, ltb-true)

-- ---- the record

-- An array of rows: the first m are rows of n qubits, and the others are +I.
pub record RowArray (n m : ℕ) (rows : List Pauli) : Type 0 where
  pub used : all_of (is_row n) (take m rows) ≡ true
  pub unused : all_of (same_pauli identity) (drop m rows) ≡ true

row-array : (n m : ℕ) (rows : List Pauli) → are_rows n m rows ≡ true → RowArray n m rows
unfolding are_rows
row-array n m rows h = let b = both _ _ h in record { used = b.0; unused = b.1 }

pub record Limits (c : Code) : Type 0 where
  pub qubits : (2 ≤ c.n) × (c.n ≤ most_qubits)
  pub generator_count : (1 ≤ c.r) × (c.r < c.n)
  pub distance : (1 ≤ c.d) × (c.d ≤ most_distance)
  pub generator_rows : RowArray c.n c.r c.g
  pub x_rows : RowArray c.n (logical_count c) c.x
  pub z_rows : RowArray c.n (logical_count c) c.z
  pub claim : is_claim c.n c.w ≡ true

-- The tests that the limits join.
pub record Tests (c : Code) : Type 0 where
  pub qubits : between 2 most_qubits c.n ≡ true
  pub generator_count : between 1 (most_generators c.n) c.r ≡ true
  pub distance : between 1 most_distance c.d ≡ true
  pub generator_rows : are_rows c.n c.r c.g ≡ true
  pub x_rows : are_rows c.n (logical_count c) c.x ≡ true
  pub z_rows : are_rows c.n (logical_count c) c.z ≡ true
  pub claim : is_claim c.n c.w ≡ true

pub tests : (c : Code) → within_limits c ≡ true → Tests c
unfolding within_limits
tests c h7 =
    let h6 = both _ _ h7 in
    let h5 = both _ _ h6.0 in
    let h4 = both _ _ h5.0 in
    let h3 = both _ _ h4.0 in
    let h2 = both _ _ h3.0 in
    let h1 = both _ _ h2.0 in
    record {
      qubits = h1.0;
      generator_count = h1.1;
      distance = h2.1;
      generator_rows = h3.1;
      x_rows = h4.1;
      z_rows = h5.1;
      claim = h6.1;
    }

pub limits : (c : Code) → within_limits c ≡ true → Limits c
unfolding most_generators
limits c h =
    let t = tests c h in
    let q = between-bounds _ _ _ t.qubits in
    let r = between-bounds _ _ _ t.generator_count in
    record {
      qubits = q;
      generator_count = omega arith;
      distance = between-bounds _ _ _ t.distance;
      generator_rows = row-array _ _ _ t.generator_rows;
      x_rows = row-array _ _ _ t.x_rows;
      z_rows = row-array _ _ _ t.z_rows;
      claim = t.claim;
    }

-- 15 comes before other checks: it lets them answer within the limits.
pub within-later : (c : Code) (later : Option Refusal) → within_limits c ≡ true → later ≡ (limits_fault c then later)
unfolding limits_fault refuse_if ◌then◌
within-later c later within = ap (λ t. refuse_if (not t) Refusal.RecordLimits then later) (sym within)
