-- Rows that are added one by one: those in the array so far, and what is made of them from here on.
use mathlib.Core.Bool.{Bool, true, false, cond}
use mathlib.Core.List.{List, [], ◌∷◌, map}
use mathlib.Core.Logic.{◌⊎◌, inl}
use mathlib.Core.Path.{◌≡◌, refl, ap, ap₂, sym, ◌∙◌}
use Prim.Native.Nat.{ℕ, ◌+◌, ◌<◌, ◌≤◌}
use native.Mathlib.Omega.{arith}
use lib.ListN.{length, take, drop, get_or}
use Rattle.pauli.specs.declared.Pauli.{Pauli}
use Rattle.pauli.specs.Product.{identity, modulo4, same_masks}
use Rattle.code_record.specs.Record.{row_room}
use Rattle.code_record.proofs.Filled.{length-filled}
use Rattle.stabilizer.specs.Canonical.{cleared, reduced, reduces_to_identity, insert_by_pivot, added}
use Rattle.stabilizer.proofs.Echelon.{Spread, modulo4-masks, rows-cleared, added-spread}
use Rattle.stabilizer.proofs.FirstRows.{taken_at, taken-end}
use Rattle.reduced_rows.specs.declared.ReducedRows.{ReducedRows}
use Rattle.reduced_rows.specs.Rows.{rows_in, reduced_of}
use Rattle.reduced_rows.proofs.Rows.{rows_of, reduced-at, reduced-end}
use Rattle.independent_rows.specs.Rows.{independent_rows}
use Rattle.independent_rows.proofs.Placing.{Clearing, clearing-none}

-- ---- one row more

module _ (n : ℕ) (hs : List Pauli) (P : Pauli) (rows : List Pauli) where
  pub ends-here : reduces_to_identity n hs P ≡ true → independent_rows n hs (P ∷ rows) ≡ hs
  unfolding independent_rows
  ends-here phase = ap (λ t. elim t [ true ↦ hs | false ↦ independent_rows n (added n hs P) rows ]) phase

  pub goes_on : reduces_to_identity n hs P ≡ false
      → independent_rows n hs (P ∷ rows) ≡ independent_rows n (added n hs P) rows
  unfolding independent_rows
  goes_on new = ap (λ t. elim t [ true ↦ hs | false ↦ independent_rows n (added n hs P) rows ]) new

-- A row of which more is left stands in its place among the rows, which are cleared by it.
added_is : (n : ℕ) (hs : List Pauli) (P : Pauli) → reduces_to_identity n hs P ≡ false
    → insert_by_pivot n (modulo4 (reduced n hs P)) (map (cleared n (modulo4 (reduced n hs P))) hs) ≡ added n hs P
unfolding added reduces_to_identity
added_is n hs P new =
    let Q = modulo4 (reduced n hs P) in
    ap (λ t. cond t hs (insert_by_pivot n Q (map (cleared n Q) hs))) (sym (modulo4-masks (reduced n hs P) ∙ new))

-- ---- what the rows leave of a row

-- `at` rows have cleared it: what the rows behind them leave of it is the same.
pub record Reducing (n : ℕ) (hs : ReducedRows) (place : ℕ) (P : Pauli) (at : ℕ) (left : Pauli) : Type 0 where
  pub few : place < row_room
  pub within : at ≤ place
  pub same : reduced n (drop at (rows_in hs)) left ≡ reduced n (rows_in hs) P

pub reducing-none : (n : ℕ) (hs : ReducedRows) (place : ℕ) (P : Pauli) → place < row_room → Reducing n hs place P 0 P
reducing-none n hs place P few = record { few = few; within = omega arith; same = refl }

module _ {n : ℕ} {hs : ReducedRows} {place : ℕ} {P : Pauli} {at : ℕ} {left : Pauli}
    (r : Reducing n hs place P at left) (counted : hs.count ≡ place) where
  pub reducing-more : length hs.rows ≡ row_room → at < place → {less : Pauli}
      → less ≡ cleared n (get_or hs.rows at identity) left → Reducing n hs place P (at + 1) less
  reducing-more room more own = record {
    few = r.few;
    within = omega arith;
    same =
        ap (reduced n (drop (at + 1) (rows_in hs))) own
        ∙ sym (reduced-at hs at n left (omega arith) (omega (arith, r.few))) ∙ r.same;
  }

  pub reducing-end : place ≤ at → left ≡ reduced n (rows_in hs) P
  reducing-end end = reduced-end hs at n left (inl (omega arith)) ∙ r.same

-- ---- the array

module _ (n : ℕ) (rows : List Pauli) (count : ℕ) where
  pub record Added (place : ℕ) (hs : ReducedRows) : Type 0 where
    pub sofar : List Pauli
    pub held : hs ≡ reduced_of n sofar
    pub sized : length sofar ≡ place
    pub spread : Spread n sofar
    pub left : independent_rows n sofar (drop place (take count rows)) ≡ independent_rows n [] (take count rows)

  pub added_none : {hs : ReducedRows} → hs ≡ reduced_of n [] → Added 0 hs
  added_none e = record { sofar = []; held = e; sized = refl; spread = tt; left = refl }

  module _ {place : ℕ} {hs : ReducedRows} (s : Added place hs) where
    pub added-count : hs.count ≡ place
    unfolding reduced_of
    added-count = ap (λ r. r.count) s.held ∙ s.sized

    pub added-room : place < row_room → length hs.rows ≡ row_room
    unfolding reduced_of
    added-room few = ap (λ r. length r.rows) s.held ∙ length-filled row_room s.sofar (omega (arith, s.sized))

    rows_are : rows_in hs ≡ s.sofar
    rows_are = ap rows_in s.held ∙ rows_of n s.sofar

    pub added-clearing : (q : Pauli) → place < row_room → Clearing n q (rows_in hs) place 0 hs
    added-clearing q few =
        clearing-none n q (rows_in hs) place few (ap length rows_are ∙ s.sized)
        (s.held ∙ ap (reduced_of n) (sym rows_are))

    pub added-end : (count ≤ place) ⊎ (length rows ≤ place) → hs
        ≡ reduced_of n (independent_rows n [] (take count rows))
    unfolding independent_rows
    added-end end =
        s.held ∙ ap (reduced_of n) (ap (independent_rows n s.sofar) (sym (taken-end rows count place end)) ∙ s.left)

    -- What the rows so far leave of the next one.
    module _ (room : length rows ≡ row_room) (few : place < count) (inside : place < row_room) {left : Pauli}
        (own : left ≡ reduced n (rows_in hs) (get_or rows place identity)) where
      left_is : left ≡ reduced n s.sofar (get_or rows place identity)
      left_is = own ∙ ap (λ hs. reduced n hs (get_or rows place identity)) rows_are

      here : drop place (take count rows) ≡ get_or rows place identity ∷ drop (place + 1) (take count rows)
      here = taken_at rows count place few (omega arith)

      masks : {t : Bool} → same_masks left identity ≡ t → reduces_to_identity n s.sofar (get_or rows place identity) ≡ t
      unfolding reduces_to_identity
      masks e = ap (λ Q. same_masks Q identity) (sym left_is) ∙ e

      -- Nothing but a phase is left.
      pub added-dependent : same_masks left identity ≡ true
          → hs ≡ reduced_of n (independent_rows n [] (take count rows))
      added-dependent phase =
          s.held
          ∙ ap (reduced_of n)
          (sym (ap (independent_rows n s.sofar) here
          ∙ ends-here n s.sofar (get_or rows place identity) (drop (place + 1) (take count rows)) (masks phase))
          ∙ s.left)

      -- The rows that it clears stay apart.
      pub added-apart : {q : Pauli} → q ≡ modulo4 left → Spread n (map (cleared n q) (rows_in hs))
      added-apart phased =
          rw (phased, left_is, rows_are) (rows-cleared n s.sofar (get_or rows place identity) s.spread)

      -- What is left is put in its place among the rows.
      pub added_more : same_masks left identity ≡ false → {q : Pauli} → q ≡ modulo4 left → {longer : ReducedRows}
          → longer.count ≡ place + 1 → longer ≡ reduced_of n (insert_by_pivot n q (map (cleared n q) (rows_in hs)))
          → Added (place + 1) longer
      unfolding reduced_of
      added_more new phased {longer} counted e =
          let P = get_or rows place identity in
          let held : longer ≡ reduced_of n (added n s.sofar P) =
          e
          ∙ ap₂ (λ q hs. reduced_of n (insert_by_pivot n q (map (cleared n q) hs))) (phased
          ∙ ap modulo4 left_is) rows_are
          ∙ ap (reduced_of n) (added_is n s.sofar P (masks new)) in
          record {
            sofar = added n s.sofar P;
            held = held;
            sized = sym (ap (λ r. r.count) held) ∙ counted;
            spread = added-spread n s.sofar P s.spread;
            left =
                sym (ap (independent_rows n s.sofar) here
                ∙ goes_on n s.sofar P (drop (place + 1) (take count rows)) (masks new))
                ∙ s.left;
          }
