-- Rows read one after the other: what a loop has read stands before what the rest gives.
use mathlib.Core.List.{List, [], ◌∷◌, ◌++◌, append_assoc, append-nil}
use mathlib.Core.Path.{◌≡◌, refl, ap, sym, ◌∙◌}
use Prim.Native.Nat.{ℕ, zero, suc, ◌+◌, ◌-◌, ◌<◌, ◌≤◌}
use Prim.Native.String.{String}
use native.Mathlib.Omega.{arith}
use lib.ListN.{length, drop, set, replicate, length-append, length-drop}
use lib.Seq.{drop-drop}
use Rattle.pauli.specs.declared.Pauli.{Pauli}
use Rattle.pauli.specs.Product.{identity}
use Rattle.refusals.specs.declared.Refusal.{Refusal}
use Rattle.code_record.specs.Record.{row_room, filled}
use Rattle.code_record.proofs.Filled.{filled_more}
use Rattle.sheet.specs.Reader.{got, stop, row_line}
use Rattle.row_reader.specs.Answers.{within_qubits}
use Rattle.gathered_rows.specs.InTurn.{in_turn, rows_in_turn, gathered_as, gathered}

-- ---- one line

module _ (key : String) (n : ℕ) where
  pub turn-row : (most : ℕ) {row : Pauli} (s : List ℕ) {rest : List ℕ}
      → within_qubits n 0 (row_line key n 0) s ≡ got row rest
      → rows_in_turn (suc most) key n s ≡ (row ∷ (rows_in_turn most key n rest).0, (rows_in_turn most key n rest).1)
  unfolding rows_in_turn in_turn
  turn-row most s e = ap (λ p. in_turn p (rows_in_turn most key n) s) e

  pub turn-none : (most : ℕ) (s : List ℕ) {refusal : Refusal}
      → within_qubits n 0 (row_line key n 0) s ≡ stop refusal → rows_in_turn most key n s ≡ ([], s)
  unfolding rows_in_turn in_turn
  turn-none zero s e = refl
  turn-none (suc most) s e = ap (λ p. in_turn p (rows_in_turn most key n) s) e

  pub turn-full : (most count : ℕ) (s : List ℕ) → most ≤ count → rows_in_turn (most - count) key n s ≡ ([], s)
  unfolding rows_in_turn
  turn-full most count s h = let none : most - count ≡ 0 = omega arith in ap (λ m. rows_in_turn m key n s) none

-- ---- several lines

abbrev joined : List Pauli → List Pauli × List ℕ → List Pauli × List ℕ
joined read q = (read ++ q.0, q.1)

joined-row : (read : List Pauli) (row : Pauli) (q : List Pauli × List ℕ)
    → joined read (row ∷ q.0, q.1) ≡ joined (read ++ row ∷ []) q
joined-row read row q = ap (λ rows. (rows, q.1)) (sym (append_assoc read (row ∷ []) q.0))

pub record Turned (most : ℕ) (key : String) (n : ℕ) (s : List ℕ) (rows : List Pauli) (count end : ℕ) : Type 0 where
  pub few : count ≤ most
  pub within : end ≤ length s
  pub read : List Pauli
  pub held : rows ≡ filled row_room read
  pub counted : length read ≡ count
  pub so_far : rows_in_turn most key n s ≡ joined read (rows_in_turn (most - count) key n (drop end s))

module _ (most : ℕ) (key : String) (n : ℕ) (s : List ℕ) where
  pub turned_none : Turned most key n s (replicate row_room identity) 0 0
  unfolding filled
  turned_none =
      let all : most ≡ most - 0 = omega arith in
      record {
        few = omega arith;
        within = omega arith;
        read = [];
        held = refl;
        counted = refl;
        so_far = ap (λ m. rows_in_turn m key n s) all;
      }

  module _ {rows : List Pauli} {count end : ℕ} (h : Turned most key n s rows count end) where
    -- a row is read
    pub turned_more : (row : Pauli) (used : ℕ) → count < most → most ≤ row_room → end + used ≤ length s
        → within_qubits n 0 (row_line key n 0) (drop end s) ≡ got row (drop used (drop end s))
        → Turned most key n s (set rows count row) (count + 1) (end + used)
    turned_more row used more room within e =
        let left : most - count ≡ suc (most - (count + 1)) = omega arith in
        record {
          few = omega arith;
          within = within;
          read = h.read ++ row ∷ [];
          held =
              ap (λ all. set all count row) h.held
              ∙ ap (λ i. set (filled row_room h.read) i row) (sym h.counted)
              ∙ filled_more row_room h.read row (omega (arith, h.counted));
          counted = omega (arith, length-append h.read (row ∷ []), h.counted);
          so_far =
              h.so_far
              ∙ ap (λ m. joined h.read (rows_in_turn m key n (drop end s))) left
              ∙ ap (joined h.read) (turn-row key n (most - (count + 1)) (drop end s) e)
              ∙ joined-row h.read row (rows_in_turn (most - (count + 1)) key n (drop used (drop end s)))
              ∙ ap (λ t. joined (h.read ++ row ∷ []) (rows_in_turn (most - (count + 1)) key n t))
              (drop-drop used end s);
        }

    -- no row is left
    pub turned-end : rows_in_turn (most - count) key n (drop end s) ≡ ([], drop end s)
        → record { end = end; count = count; rows = rows } ≡ gathered most key n s
    unfolding gathered
    turned-end e =
        let here : end ≡ length s - length (drop end s) = omega (arith, length-drop end s, h.within) in
        let whole : rows_in_turn most key n s ≡ (h.read, drop end s) =
        h.so_far ∙ ap (joined h.read) e ∙ ap (λ rows. (rows, drop end s)) (append-nil h.read) in
        (λ i. record { end = here i; count = sym h.counted i; rows = h.held i })
        ∙ ap (gathered_as s) (sym whole)
