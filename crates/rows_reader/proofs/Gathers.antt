-- Rows that were gathered, against the definition of a sheet's rows: it reads them too, and goes on behind them. By
-- induction on how many are read at most, from what one line is, which is the same on whichever line it stands.
use Rattle.std.specs.Prelude.{Option, Some, None}
use mathlib.Core.Bool.{Bool, true, false}
use mathlib.Core.List.{List, [], ◌∷◌, ◌++◌}
use mathlib.Core.Path.{◌≡◌, refl, ap, sym, subst, ◌∙◌}
use Prim.Native.Nat.{ℕ, zero, suc, ◌+◌, ◌-◌, ◌<◌, ◌≤◌}
use Prim.Native.String.{String}
use native.Mathlib.Omega.{arith}
use borrow.Author.Tests.{eqb-true}
use lib.ListN.{length, take, drop, get_or, length-drop}
use lib.Seq.{drop-drop}
use Rattle.pauli.specs.declared.Pauli.{Pauli}
use Rattle.letters.specs.Lists.{bytes}
use Rattle.refusals.specs.declared.Refusal.{Refusal}
use Rattle.code_record.specs.Record.{row_room, most_qubits, filled}
use Rattle.code_record.proofs.Limits.{both}
use Rattle.sheet.specs.Reader.{Parsed, got, stop, done, continue, begins, got_or, is_line, line_of}
use Rattle.sheet.specs.Reader.{read_row, row_line, rows_up_to}
use Rattle.sheet.specs.Text.{line_feed}
use Rattle.sheet.proofs.Line.{nonzero-within}
use Rattle.sheet.proofs.Reading.{then-got}
use Rattle.row_reader.specs.Answers.{within_qubits}
use Rattle.row_reader.proofs.Answers.{few-qubits}
use Rattle.gathered_rows.specs.declared.Gathered.{Gathered}
use Rattle.gathered_rows.specs.InTurn.{rows_in_turn, gathered}
use Rattle.gathered_rows.proofs.Turns.{turn-row, turn-none}
use Rattle.rows_reader.proofs.RowsLeft.{rows_left, row_behind, row-begins, next-line}

-- ---- one line

-- It is off its form, or it has a row and takes so many bytes, whichever line it is.
data AnyLine (key : String) (n : ℕ) (s : List ℕ) : Type 0 where
  off-form : ((at : ℕ) → row_line key n at s ≡ stop (Refusal.Form at)) → AnyLine key n s
  has-row : (P : Pauli) (used : ℕ) → used ≤ length s → ((at : ℕ) → row_line key n at s ≡ got P (drop used s))
      → AnyLine key n s

any-line : (key : String) (n : ℕ) (s : List ℕ) → AnyLine key n s
unfolding row_line line_of is_line got_or line_feed
any-line key n s = by-line (is_line (bytes key) (n + 1) s) refl (read_row (take (n + 1) value)) refl
  where
    value : List ℕ
    value = drop (length (bytes key)) s

    inside : is_line (bytes key) (n + 1) s ≡ true → length (bytes key) + (n + 1 + 1) ≤ length s
    inside e =
        let feed = eqb-true (get_or value (n + 1) 0) line_feed (both (begins (bytes key) s) _ e).1 in
        omega (arith, nonzero-within value (n + 1) (omega (arith, feed)), length-drop (length (bytes key)) s)

    by-line : (b : Bool) → is_line (bytes key) (n + 1) s ≡ b → (o : Option Pauli) → read_row (take (n + 1) value) ≡ o
        → AnyLine key n s
    by-line false e o f = off-form (λ at. rw e)
    by-line true e None f = off-form (λ at. rw (e, f))
    by-line true e (Some P) f =
        has-row P (length (bytes key) + (n + 1 + 1)) (inside e)
        (λ at. rw (e, f) (ap (got P) (drop-drop (n + 1 + 1) (length (bytes key)) s)))

-- ---- lines in turn

-- The rows read so far stand before those that the rest gives.
unfoldable pub prepended : List Pauli → Parsed (List Pauli) → Parsed (List Pauli)
prepended read p = continue p (λ rows. done (read ++ rows))

prepended-nothing : (p : Parsed (List Pauli)) → p ≡ prepended [] p
unfolding prepended continue done
prepended-nothing (got rows s) = refl
prepended-nothing (stop refusal) = refl

prepended-row : (row : Pauli) (read : List Pauli) (p : Parsed (List Pauli))
    → continue (prepended read p) (λ rows. done (row ∷ rows)) ≡ prepended (row ∷ read) p
unfolding prepended continue done
prepended-row row read (got rows s) = refl
prepended-row row read (stop refusal) = refl

-- What is read in turn, and the bytes behind it, against the definition.
record InTurn (key : String) (n most : ℕ) (s : List ℕ) (q : List Pauli × List ℕ) : Type 0 where
  few : length q.0 ≤ most
  shorter : length q.1 ≤ length s
  behind : q.1 ≡ drop (length s - length q.1) s
  so_far : (at : ℕ) → rows_up_to most key n at s ≡ prepended q.0 (rows_left key n most at (length q.0) q.1)
  ended : length q.0 < most → (at : ℕ) → row_line key n at q.1 ≡ stop (Refusal.Form at)

module _ (key : String) (n : ℕ) (most : ℕ) (s : List ℕ) where
  none-in-turn : (0 < most → (at : ℕ) → row_line key n at s ≡ stop (Refusal.Form at)) → InTurn key n most s ([], s)
  unfolding rows_left
  none-in-turn ended =
      let all : most - 0 ≡ most = omega arith in
      let whole : length s - length s ≡ 0 = omega arith in
      record {
        few = omega arith;
        shorter = omega arith;
        behind = ap (λ m. drop m s) (sym whole);
        so_far =
            λ at. let first : at + 0 ≡ at = omega arith in
            prepended-nothing (rows_up_to most key n at s)
            ∙ (λ i. prepended [] (rows_up_to (sym all i) key n (sym first i) s));
        ended = ended;
      }

  row-in-turn : {q : List Pauli × List ℕ} (P : Pauli) (used : ℕ) → used ≤ length s
      → ((at : ℕ) → row_line key n at s ≡ got P (drop used s)) → InTurn key n most (drop used s) q
      → InTurn key n (suc most) s (P ∷ q.0, q.1)
  unfolding rows_left
  row-in-turn {q} P used inside gives h =
      let shorter = length-drop used s in
      let places : used + (length (drop used s) - length q.1) ≡ length s - length q.1 =
      omega (arith, shorter, h.shorter) in
      record {
        few = omega (arith, h.few);
        shorter = omega (arith, shorter, h.shorter);
        behind =
            h.behind ∙ drop-drop (length (drop used s) - length q.1) used s ∙ ap (λ m. drop m s) places;
        so_far =
            λ at. let lines : at + 1 + length q.0 ≡ at + suc (length q.0) = omega arith in
            let left : most - length q.0 ≡ suc most - suc (length q.0) = omega arith in
            next-line key n most at s (row-begins key n at s (drop used s) (gives at))
            ∙ then-got (row_behind (rows_up_to most key n (at + 1))) (gives at)
            ∙ ap (λ p. continue p (λ rows. done (P ∷ rows))) (h.so_far (at + 1))
            ∙ prepended-row P q.0 _
            ∙ (λ i. prepended (P ∷ q.0) (rows_up_to (left i) key n (lines i) q.1));
        ended = λ more. h.ended (omega arith);
      }

in-turn : (key : String) (n : ℕ) → n ≤ most_qubits → (most : ℕ) (s : List ℕ)
    → InTurn key n most s (rows_in_turn most key n s)
unfolding rows_in_turn
in-turn key n few zero s = none-in-turn key n 0 s (λ more. absurd (omega arith))
in-turn key n few (suc most) s = by-line (any-line key n s) (in-turn key n few most)
  where
    first : within_qubits n 0 (row_line key n 0) s ≡ row_line key n 0 s
    first = few-qubits n 0 (row_line key n 0) s few

    by-line : AnyLine key n s → ((t : List ℕ) → InTurn key n most t (rows_in_turn most key n t))
        → InTurn key n (suc most) s (rows_in_turn (suc most) key n s)
    by-line (off-form stops) next =
        subst (InTurn key n (suc most) s) (sym (turn-none key n (suc most) s (first ∙ stops 0)))
        (none-in-turn key n (suc most) s (λ more. stops))
    by-line (has-row P used inside gives) next =
        subst (InTurn key n (suc most) s) (sym (turn-row key n most s (first ∙ gives 0)))
        (row-in-turn key n most s P used inside gives (next (drop used s)))

-- ---- what was gathered

pub record Gathers (s : List ℕ) (key : String) (n most : ℕ) (r : Gathered) : Type 0 where
  pub read : List Pauli
  pub held : r.rows ≡ filled row_room read
  pub counted : length read ≡ r.count
  pub few : r.count ≤ most
  pub within : r.end ≤ length s
  pub so_far : (at : ℕ)
      → rows_up_to most key n at s ≡ prepended read (rows_left key n most at r.count (drop r.end s))
  pub ended : r.count < most → (at : ℕ) → row_line key n at (drop r.end s) ≡ stop (Refusal.Form at)

pub gathers : (key : String) (n : ℕ) → n ≤ most_qubits → (most : ℕ) (s : List ℕ)
    → Gathers s key n most (gathered most key n s)
unfolding gathered
gathers key n few most s =
    let q = rows_in_turn most key n s in
    let h = in-turn key n few most s in
    record {
      read = q.0;
      held = refl;
      counted = refl;
      few = h.few;
      within = omega arith;
      so_far = λ at. h.so_far at ∙ ap (λ t. prepended q.0 (rows_left key n most at (length q.0) t)) h.behind;
      ended = λ more at. ap (row_line key n at) (sym h.behind) ∙ h.ended more at;
    }
