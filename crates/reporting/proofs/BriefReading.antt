-- The refusals of a reading are brief, as text: reader by reader, each refusal names a line of the sheet, and the rows
-- between two lines are counted.
use Rattle.std.specs.Prelude.{Option}
use mathlib.Core.Bool.{Bool, true, false, cond, ◌||◌}
use mathlib.Core.List.{List}
use mathlib.Core.Path.{◌≡◌, refl}
use Prim.Native.Nat.{ℕ, zero, suc, ◌+◌, ◌*◌, ◌≤◌}
use Prim.Native.String.{String}
use native.Mathlib.Omega.{arith}
use borrow.Author.Tests.{ltb-false}
use lib.Dec.{lit≤, eqb, ltb}
use lib.ListN.{length, take, drop}
use Rattle.pauli.specs.declared.Pauli.{Pauli}
use Rattle.letters.specs.Lists.{bytes}
use Rattle.refusals.specs.declared.Refusal.{Refusal}
use Rattle.code_record.specs.Record.{most_qubits, most_distance, longest_input, first_generator_at, pair_count}
use Rattle.code_record.specs.Record.{most_generators}
use Rattle.code_record.specs.Record.{between}
use Rattle.code_record.proofs.Limits.{between-bounds}
use Rattle.sheet.specs.Reader.{SheetRead, stop, done, begins, is_line, line_of, read_line, read_number, read_row}
use Rattle.sheet.specs.Reader.{read_letters}
use Rattle.sheet.specs.Reader.{in_range, qubit_line, distance_line, row_line, rows_up_to, counted_generators}
use Rattle.sheet.specs.Reader.{generator_lines}
use Rattle.sheet.specs.Reader.{counted_logicals, logical_lines, claim_line, lines_after, sheet_lines, read_lines}
use Rattle.sheet.proofs.Outcome.{Outcome, gets, stops, continue-outcome, cond-outcome, got_or-outcome}
use Rattle.reporting.proofs.Brief.{last_line, Brief, brief}

brief-form : (at : ℕ) → at ≤ last_line → Brief (Refusal.Form at)
brief-form at h = brief (Refusal.Form at) (lit≤ tt) h refl

brief-count : (at : ℕ) → at ≤ last_line → Brief (Refusal.GeneratorCount at)
brief-count at h = brief (Refusal.GeneratorCount at) (lit≤ tt) h refl

-- ---- single lines

module _ {A : Type 0} where
  abbrev Anything : A → List ℕ → Type 0
  Anything a s = Unit {0}

  line-brief : (key : String) (m : ℕ) (read : List ℕ → Option A) (refusal : Refusal) (s : List ℕ) → Brief refusal
      → Outcome Anything Brief (read_line key m read refusal s)
  unfolding line_of
  line-brief key m read refusal s h =
      let value = drop (length (bytes key)) s in
      cond-outcome (is_line (bytes key) m s) (λ e. got_or-outcome (read (take m value)) _ refusal (λ a e. tt) h)
      (λ e. stops h)

-- A number that was read is no higher than it may be.
range-brief : (low high m : ℕ) (refusal : Refusal) (s : List ℕ) → Brief refusal
    → Outcome (λ m s. m ≤ high) Brief (in_range low high refusal m s)
unfolding in_range done
range-brief low high m refusal s h = go (between low high m) refl
  where
    go : (inside : Bool) → between low high m ≡ inside
        → Outcome (λ m s. m ≤ high) Brief (cond inside (done m) (λ s. stop refusal) s)
    go true e = gets (between-bounds low high m e).1
    go false e = stops h

qubit-line-brief : (s : List ℕ) → Outcome (λ n s. n ≤ most_qubits) Brief (qubit_line s)
unfolding qubit_line
qubit-line-brief s =
    continue-outcome (line-brief "n=" _ read_number _ s (brief-form 1 (lit≤ tt)))
    λ n s' h. range-brief 2 most_qubits n _ s' (brief (Refusal.QubitCount 1) (lit≤ tt) (lit≤ tt) refl)

distance-line-brief : (s : List ℕ) → Outcome (λ d s. d ≤ most_distance) Brief (distance_line s)
unfolding distance_line
distance-line-brief s =
    continue-outcome (line-brief "d=" 1 read_number _ s (brief-form 2 (lit≤ tt)))
    λ d s' h. range-brief 1 most_distance d _ s' (brief (Refusal.DistanceRange 2) (lit≤ tt) (lit≤ tt) refl)

claim-line-brief : (n at : ℕ) (s : List ℕ) → at ≤ last_line → Outcome Anything Brief (claim_line n at s)
unfolding claim_line
claim-line-brief n at s h = line-brief "w=" n read_letters _ s (brief-form at h)

-- ---- rows

rows-brief : (most : ℕ) (key : String) (n at : ℕ) (s : List ℕ) → at + most ≤ last_line
    → Outcome (λ rows s. length rows ≤ most) Brief (rows_up_to most key n at s)
unfolding rows_up_to row_line done
rows-brief zero key n at s few = gets (lit≤ tt)
rows-brief (suc most) key n at s few =
    cond-outcome (begins (bytes key) s)
    (λ e. continue-outcome (line-brief key (n + 1) read_row _ s (brief-form at (omega arith)))
    λ P s' h. continue-outcome (rows-brief most key n (at + 1) s' (omega arith)) λ rows s'' hs. gets (omega arith))
    (λ e. gets (omega arith))

generator-lines-brief : (n at : ℕ) (s : List ℕ) → at + most_generators n ≤ last_line
    → Outcome (λ gs s. length gs ≤ most_generators n) Brief (generator_lines n at s)
unfolding generator_lines counted_generators
generator-lines-brief n at s few =
    continue-outcome (rows-brief (most_generators n) "g=" n at s few) λ gs s' h.
    cond-outcome (eqb (length gs) 0 || begins (bytes "g=") s') (λ e. stops (brief-count _ (omega arith))) (λ e. gets h)

logical-lines-brief : (k : ℕ) (key : String) (n at : ℕ) (s : List ℕ) → at + k ≤ last_line
    → Outcome Anything Brief (logical_lines k key n at s)
unfolding logical_lines counted_logicals
logical-lines-brief k key n at s few =
    continue-outcome (rows-brief k key n at s few) λ ls s' h.
    cond-outcome (ltb (length ls) k) (λ e. stops (brief-form _ (omega arith))) (λ e. gets tt)

-- ---- the sheet

-- What is known beforehand is known of what was read.
module _ {Known : Type 0} (known : Known) where
  lines-after-brief : (n d at : ℕ) (gs : List Pauli) (s : List ℕ) → n ≤ most_qubits → at + 2 * most_qubits ≤ last_line
      → Outcome (λ q rest. Known) Brief (lines_after n d at gs s)
  unfolding lines_after pair_count done
  lines-after-brief n d at gs s few near =
      let k = pair_count n (length gs) in
      continue-outcome (logical-lines-brief k "x=" n at s (omega arith)) λ xs s₁ hx.
      continue-outcome (logical-lines-brief k "z=" n (at + k) s₁ (omega arith)) λ zs s₂ hz.
      continue-outcome (claim-line-brief n (at + 2 * k) s₂ (omega arith)) λ w s₃ hw. gets known

  sheet-lines-brief : (s : List ℕ) → Outcome (λ q rest. Known) Brief (sheet_lines s)
  unfolding sheet_lines most_generators
  sheet-lines-brief s =
      continue-outcome (qubit-line-brief s) λ n s₁ few.
      continue-outcome (distance-line-brief s₁) λ d s₂ hd.
      continue-outcome (generator-lines-brief n first_generator_at s₂ (omega arith)) λ gs s₃ hg.
      lines-after-brief n d (first_generator_at + length gs) gs s₃ few (omega arith)

-- A refusal is brief, and what was read was no longer than an input may be.
pub lines-brief : (s : List ℕ) → Outcome (λ q rest. length s ≤ longest_input) Brief (read_lines s)
unfolding read_lines
lines-brief s =
    cond-outcome (ltb longest_input (length s)) (λ e. stops (brief Refusal.TooLong (lit≤ tt) (lit≤ tt) refl))
    (λ e. sheet-lines-brief (ltb-false longest_input (length s) e) s)

-- A refusal that ended the reading is brief.
pub stopped-brief : (s : List ℕ) (refusal : Refusal) → read_lines s ≡ stop refusal → Brief refusal
stopped-brief s refusal e = of-stop (rw e at (lines-brief s))
  where
    of-stop : Outcome (λ (q : SheetRead) (rest : List ℕ). length s ≤ longest_input) Brief (stop refusal) → Brief refusal
    of-stop (stops h) = h
