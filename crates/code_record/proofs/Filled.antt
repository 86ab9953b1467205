-- Rows at the front of an array, with +I in the places behind them: what stands where, that such an array is lawful
-- where its rows are, and that every lawful array is such a one, but for phases modulo 4.
use mathlib.Core.Bool.{true}
use mathlib.Core.List.{List, [], ◌∷◌, ◌++◌, map, map-append, append_assoc}
use mathlib.Core.Path.{◌≡◌, refl, ap, sym, ◌∙◌}
use Prim.Native.Nat.{ℕ, zero, suc, ◌-◌, ◌%◌, ◌≤◌, ◌<◌}
use native.Mathlib.Omega.{arith}
use borrow.Author.Tests.{eqb-true}
use lib.ListN.{length, take, drop, set, replicate, length-append, length-map, length-take, length-drop}
use lib.ListN.{length-replicate, take-append-drop}
use lib.Seq.{take_at, drop_at, set-append_seam}
use Rattle.pauli.specs.declared.Pauli.{Pauli}
use Rattle.letters.specs.Lists.{all_of}
use Rattle.pauli.specs.Product.{identity, modulo4, same_pauli, same_masks, has_phase}
use Rattle.pauli.proofs.Product.{same_parts}
use Rattle.code_record.specs.Record.{filled, is_row, are_rows}
use Rattle.code_record.proofs.Limits.{both, all_cons}

-- ---- unused rows

all-identity : (m : ℕ) → all_of (same_pauli identity) (replicate m identity) ≡ true
unfolding all_of same_pauli same_masks has_phase
all-identity zero = refl
all-identity (suc m) = all-identity m

unused-row : (P : Pauli) → same_pauli identity P ≡ true → modulo4 P ≡ identity
unfolding same_pauli has_phase same_masks modulo4
unused-row P h =
    let b = both _ _ h in
    let m = both _ _ b.1 in
    sym (same_parts _ _ (eqb-true 0 (P.p % 4) b.0) (eqb-true 0 P.a m.0) (eqb-true 0 P.b m.1))

unused-rows : (rows : List Pauli) → all_of (same_pauli identity) rows ≡ true
    → map modulo4 rows ≡ replicate (length rows) identity
unused-rows [] all = refl
unused-rows (P ∷ rows) all =
    let h = all_cons (same_pauli identity) P rows all in
    rw (unused-row P h.0, unused-rows rows h.1)

-- ---- filled arrays

module _ (m : ℕ) (rows : List Pauli) where
  pub length-filled : length rows ≤ m → length (filled m rows) ≡ m
  unfolding filled
  length-filled h = simp (length-append, length-replicate) (omega arith)

  pub filled-modulo4 : map modulo4 rows ≡ rows → map modulo4 (filled m rows) ≡ filled m rows
  unfolding filled
  filled-modulo4 h = rw (map-append, h, unused-rows _ (all-identity (m - length rows)), length-replicate)

  -- The rows in an array, and the places behind them.
  module _ (k : ℕ) (count : length rows ≡ k) where
    pub take-filled : take k (filled m rows) ≡ rows
    unfolding filled
    take-filled = take_at rows _ k count

    drop-filled : drop k (filled m rows) ≡ replicate (m - length rows) identity
    unfolding filled
    drop-filled = drop_at rows _ k count

    pub filled-are-rows : (n : ℕ) → all_of (is_row n) rows ≡ true → are_rows n k (filled m rows) ≡ true
    unfolding are_rows
    filled-are-rows n e = rw (take-filled, e, drop-filled, all-identity)

-- One more row in an array.
pub filled_more : (room : ℕ) (rows : List Pauli) (row : Pauli) → length rows < room
    → set (filled room rows) (length rows) row ≡ filled room (rows ++ row ∷ [])
unfolding filled
filled_more room rows row h =
    let left : room - length rows ≡ suc (room - length (rows ++ row ∷ [])) =
    omega (arith, length-append rows (row ∷ [])) in
    ap (λ m. set (rows ++ replicate m identity) (length rows) row) left
    ∙ set-append_seam rows identity (replicate (room - length (rows ++ row ∷ [])) identity) row
    ∙ sym (append_assoc rows (row ∷ []) (replicate (room - length (rows ++ row ∷ [])) identity))

-- The used rows of an array, with +I behind them, are the array.
pub filled-returns : (m r : ℕ) (rows : List Pauli) → length rows ≡ m → all_of (same_pauli identity) (drop r rows) ≡ true
    → filled m (map modulo4 (take r rows)) ≡ map modulo4 rows
unfolding filled
filled-returns m r rows long unused =
    let room : m - length (map modulo4 (take r rows)) ≡ length (drop r rows) =
    simp (length-map, length-take, length-drop) (omega arith) in
    rw (room, ← unused-rows, ← map-append, take-append-drop)
