-- What the counts of the rows make of the lines that were read.
use mathlib.Core.Bool.{Bool, true, false, or-true}
use mathlib.Core.List.{List, [], append-nil}
use mathlib.Core.Path.{◌≡◌, refl, ap, sym, ◌∙◌}
use Prim.Native.Nat.{ℕ, ◌+◌, ◌<◌, ◌≤◌}
use Prim.Native.String.{String}
use native.Mathlib.Omega.{arith}
use borrow.Author.Tests.{lt-ltb, le-ltb, eq-eqb, ne_eqb}
use lib.ListN.{length, drop}
use Rattle.pauli.specs.declared.Pauli.{Pauli}
use Rattle.letters.specs.Lists.{bytes}
use Rattle.refusals.specs.declared.Refusal.{Refusal}
use Rattle.code_record.specs.Record.{row_room, most_generators, filled}
use Rattle.sheet.specs.Reader.{Parsed, got, stop, done, continue, begins, rows_up_to}
use Rattle.sheet.specs.Reader.{generator_lines, counted_generators, logical_lines, counted_logicals}
use Rattle.sheet.proofs.Reading.{then-got, then-stop}
use Rattle.gathered_rows.specs.declared.Gathered.{Gathered}
use Rattle.rows_reader.proofs.Gathers.{prepended, Gathers}
use Rattle.rows_reader.proofs.RowsLeft.{rows_left, rows-full, rows-ended, rows-refused}

-- ---- rows of any key

-- The rows that a definition gives are in an array, so many of them, and what is left begins at a place.
pub record Held (s : List ℕ) (used count : ℕ) (rows : List Pauli) (definition : Parsed (List Pauli)) : Type 0 where
  pub read : List Pauli
  pub held : rows ≡ filled row_room read
  pub counted : length read ≡ count
  pub gives : definition ≡ got read (drop used s)

module _ {s : List ℕ} {key : String} {n most : ℕ} {r : Gathered} (h : Gathers s key n most r) (at : ℕ) where
  -- nothing is left
  ended : rows_left key n most at r.count (drop r.end s) ≡ got [] (drop r.end s)
      → Held s r.end r.count r.rows (rows_up_to most key n at s)
  unfolding prepended continue done
  ended e =
      record {
        read = h.read;
        held = h.held;
        counted = h.counted;
        gives =
            h.so_far at ∙ ap (prepended h.read) e
            ∙ ap (λ all. got all (drop r.end s)) (append-nil h.read);
      }

  pub rows-all-read : most ≤ r.count → Held s r.end r.count r.rows (rows_up_to most key n at s)
  rows-all-read all = ended (rows-full key n most at r.count (drop r.end s) all)

  pub rows_behind : begins (bytes key) (drop r.end s) ≡ false
      → Held s r.end r.count r.rows (rows_up_to most key n at s)
  rows_behind other = ended (rows-ended key n most at r.count (drop r.end s) other)

  pub rows-off-form : begins (bytes key) (drop r.end s) ≡ true → r.count < most
      → rows_up_to most key n at s ≡ stop (Refusal.Form (at + r.count))
  unfolding prepended continue
  rows-off-form begun more =
      h.so_far at
      ∙ ap (prepended h.read)
      (rows-refused key n most at r.count (drop r.end s) more begun (h.ended more (at + r.count)))

-- ---- g lines

module _ (n at : ℕ) (s : List ℕ) where
  counted : {gs : List Pauli} {rest : List ℕ} → rows_up_to (most_generators n) "g=" n at s ≡ got gs rest
      → generator_lines n at s ≡ counted_generators at gs rest
  unfolding generator_lines
  counted e = then-got (counted_generators at) e

module _ {n : ℕ} {s : List ℕ} {r : Gathered} (h : Gathers s "g=" n (most_generators n) r) (at : ℕ) where
  pub generators-off-form : begins (bytes "g=") (drop r.end s) ≡ true → r.count < most_generators n
      → generator_lines n at s ≡ stop (Refusal.Form (at + r.count))
  unfolding generator_lines
  generators-off-form begun more = then-stop (counted_generators at) (rows-off-form h at begun more)

  pub generators-too_many : begins (bytes "g=") (drop r.end s) ≡ true → most_generators n ≤ r.count
      → generator_lines n at s ≡ stop (Refusal.GeneratorCount (at + r.count))
  unfolding counted_generators
  generators-too_many begun all =
      let m = rows-all-read h at all in
      counted n at s m.gives ∙ rw (begun, or-true) (ap (λ i. stop (Refusal.GeneratorCount (at + i))) m.counted)

  pub generators-none : begins (bytes "g=") (drop r.end s) ≡ false → r.count ≡ 0
      → generator_lines n at s ≡ stop (Refusal.GeneratorCount (at + 0))
  unfolding counted_generators
  generators-none other none =
      let m = rows_behind h at other in
      counted n at s m.gives
      ∙ rw (eq-eqb (length m.read) 0 (m.counted ∙ none))
      (ap (λ i. stop (Refusal.GeneratorCount (at + i))) (m.counted ∙ none))

  pub generators-read : begins (bytes "g=") (drop r.end s) ≡ false → (r.count ≡ 0 → ⊥)
      → Held s r.end r.count r.rows (generator_lines n at s)
  unfolding counted_generators
  generators-read other some =
      let m = rows_behind h at other in
      record {
        read = m.read;
        held = m.held;
        counted = m.counted;
        gives =
            counted n at s m.gives ∙ rw (ne_eqb (length m.read) 0 (λ e. some (sym m.counted ∙ e)), other);
      }

-- ---- x and z lines

module _ (k : ℕ) (key : String) (n at : ℕ) (s : List ℕ) {ls : List Pauli} {rest : List ℕ}
    (read : rows_up_to k key n at s ≡ got ls rest) where
  logicals-missing : length ls < k → logical_lines k key n at s ≡ stop (Refusal.Form (at + length ls))
  unfolding logical_lines counted_logicals
  logicals-missing h = then-got (counted_logicals k at) read ∙ rw (lt-ltb (length ls) k h)

  logicals-counted : k ≤ length ls → logical_lines k key n at s ≡ got ls rest
  unfolding logical_lines counted_logicals
  logicals-counted h = then-got (counted_logicals k at) read ∙ rw (le-ltb (length ls) k h)

module _ {k : ℕ} {key : String} {n : ℕ} {s : List ℕ} {r : Gathered} (h : Gathers s key n k r) where
  -- a line is missing, or off its form
  pub logicals-short : r.count < k → (at : ℕ)
      → logical_lines k key n at s ≡ stop (Refusal.Form (at + r.count))
  unfolding logical_lines
  logicals-short few at = by_key (begins (bytes key) (drop r.end s)) refl
    where
      by_key : (b : Bool) → begins (bytes key) (drop r.end s) ≡ b
          → logical_lines k key n at s ≡ stop (Refusal.Form (at + r.count))
      by_key true begun = then-stop (counted_logicals k at) (rows-off-form h at begun few)
      by_key false other =
          let m = rows_behind h at other in
          logicals-missing k key n at s m.gives (omega (arith, m.counted))
          ∙ ap (λ i. stop (Refusal.Form (at + i))) m.counted

  pub logicals-all : k ≤ r.count → (at : ℕ)
      → Held s r.end r.count r.rows (logical_lines k key n at s)
  logicals-all full at =
      let m = rows-all-read h at full in
      record {
        read = m.read;
        held = m.held;
        counted = m.counted;
        gives = logicals-counted k key n at s m.gives (omega (arith, m.counted));
      }
