-- The first rows of an array, and the mask of those from a place on: twice the mask of those behind it, and the bit of
-- the row there.
use mathlib.Core.List.{List}
use mathlib.Core.Path.{◌≡◌, ap, sym, ◌∙◌}
use Prim.Native.Nat.{ℕ, suc, ◌+◌, ◌-◌, ◌*◌, ◌^◌, ◌<◌, ◌≤◌}
use native.Mathlib.Nat.{pow-le-pow_right}
use native.Mathlib.Omega.{arith}
use lib.ListN.{length, take, drop, get_or, length-take, length-drop}
use lib.Seq.{drop-cons, get_or-take}
use Rattle.pauli.specs.declared.Pauli.{Pauli}
use Rattle.pauli.specs.Product.{identity, symplectic}
use Rattle.pauli.specs.Syndrome.{syndrome_mask}
use Rattle.pauli.proofs.Undetected.{syndrome-mask-cons, syndrome-mask-lt}
use Rattle.code_record.specs.Record.{row_room}

module _ (count : ℕ) (rows : List Pauli) (place : ℕ) (P : Pauli) where
  abbrev first : List Pauli
  first = take count rows

  pub mask-before : 0 < place → place ≤ length first
      → 2 * syndrome_mask (drop place first) P + symplectic (get_or rows (place - 1) identity) P
      ≡ syndrome_mask (drop (place - 1) first) P
  mask-before some inside =
      let here = place - 1 in
      let next : place ≡ suc here = omega arith in
      let few : here < count = omega (arith, length-take count rows) in
      let row : get_or first here identity ≡ get_or rows here identity = get_or-take count rows here identity few in
      let split = drop-cons first here identity (omega arith) in
      let grown = syndrome-mask-cons (get_or first here identity) (drop (suc here) first) P in
      let bit = ap (λ row. symplectic row P) row in
      let behind : syndrome_mask (drop place first) P ≡ syndrome_mask (drop (suc here) first) P =
      ap (λ (i : ℕ). syndrome_mask (drop i first) P) next in
      omega (arith, grown, bit, behind) ∙ ap (λ rows. syndrome_mask rows P) (sym split)

  -- Behind the first row there are so few that the mask of the others can be doubled.
  pub mask-room : length rows ≡ row_room → 0 < place → syndrome_mask (drop place first) P < 2 ^ 31
  mask-room room behind =
      let left = drop place first in
      let few : length left ≤ 31 = omega (arith, length-take count rows, length-drop place first) in
      omega (arith, syndrome-mask-lt left P, pow-le-pow_right {n = 2} (omega arith) few)
