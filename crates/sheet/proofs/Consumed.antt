-- What each reader of a sheet's lines has read where it gives a value, and which numbers its refusals have. A line is
-- known from its value (Line, Values); rows one below the other go by induction, a row and then the others.
use Rattle.std.specs.Prelude.{Some}
use mathlib.Core.Bool.{Bool, true, false, cond, ◌||◌}
use mathlib.Core.List.{List, [], ◌∷◌, map, flat_map, append_assoc}
use mathlib.Core.Path.{◌≡◌, refl, ap₂, ◌∙◌}
use Prim.Native.Nat.{ℕ, zero, suc, ◌+◌, ◌≤◌}
use Prim.Native.String.{String}
use native.Mathlib.Omega.{arith}
use borrow.Author.Tests.{eqb-false, ltb-false}
use lib.Dec.{eqb, ltb}
use lib.ListN.{length}
use Rattle.pauli.specs.declared.Pauli.{Pauli}
use Rattle.pauli.specs.Letters.{letter_text, row_text}
use Rattle.letters.specs.Lists.{bytes, all_of, any_of}
use Rattle.pauli.specs.Product.{modulo4}
use Rattle.refusals.specs.declared.Refusal.{Refusal}
use Rattle.code_record.specs.Record.{most_qubits, most_distance, most_generators, between, is_row}
use Rattle.code_record.proofs.Limits.{neither, all_first, between-bounds}
use Rattle.sheet.specs.Reader.{stop, done, ◌and_then◌, begins, read_line, read_number, read_row, read_letters}
use Rattle.sheet.specs.Reader.{in_range, qubit_line, distance_line, row_line, rows_up_to, counted_generators}
use Rattle.sheet.specs.Reader.{generator_lines, counted_logicals, logical_lines, claim_line}
use Rattle.sheet.specs.Statements.{Among}
use Rattle.sheet.specs.Text.{line, decimal}
use Rattle.sheet.specs.Writer.{row_lines}
use Rattle.sheet.proofs.Line.{line-outcome}
use Rattle.sheet.proofs.Outcome.{Outcome, gets, stops, continue-outcome, cond-outcome, Took}
use Rattle.sheet.proofs.Values.{Row, Claim, number-written, row_written, claim-written}

-- The refusals 1 to 5, those of the form.
abbrev pub OfForm : Refusal → Type 0
OfForm = Among (1 ∷ 2 ∷ 3 ∷ 4 ∷ 5 ∷ [])

pub form-refusal : (at : ℕ) → OfForm (Refusal.Form at)
unfolding any_of
form-refusal at = refl

count-refusal : (at : ℕ) → OfForm (Refusal.GeneratorCount at)
unfolding any_of
count-refusal at = refl

-- ---- the numbers

-- A number between the two, and its line.
abbrev pub NumberLine : String → ℕ → ℕ → List ℕ → ℕ → List ℕ → Type 0
NumberLine key low high = Took (λ m. line key (decimal m)) (λ m. (low ≤ m) × (m ≤ high))

in-range-outcome : {Got : ℕ → List ℕ → Type 0} (low high m : ℕ) (refusal : Refusal) (s : List ℕ)
    → ((low ≤ m) × (m ≤ high) → Got m s) → OfForm refusal → Outcome Got OfForm (in_range low high refusal m s)
unfolding in_range done
in-range-outcome {Got} low high m refusal s h r = go (between low high m) refl
  where
    go : (inside : Bool) → between low high m ≡ inside → Outcome Got OfForm (cond inside (done m) (λ s. stop refusal) s)
    go true e = gets (h (between-bounds low high m e))
    go false e = stops r

number-line-outcome : (key : String) (width low high : ℕ) (form range : Refusal) (s : List ℕ) → OfForm form
    → OfForm range
    → Outcome (NumberLine key low high s) OfForm ((read_line key width read_number form and_then in_range low high
    range) s)
number-line-outcome key width low high form range s hf hr =
    let back : (v : List ℕ) (m : ℕ) → length v ≡ width → read_number v ≡ Some m → Unit {0} × (v ≡ decimal m) =
    λ v m h e. (tt, number-written v m e) in
    continue-outcome (line-outcome key width read_number back form s hf) λ m s' h.
    in-range-outcome low high m range s' (λ b. record { lawful = b; bytes_read = h.bytes_read }) hr

pub qubit-line-outcome : (s : List ℕ) → Outcome (NumberLine "n=" 2 most_qubits s) OfForm (qubit_line s)
unfolding qubit_line any_of
qubit-line-outcome s = number-line-outcome "n=" _ 2 most_qubits (Refusal.Form 1) (Refusal.QubitCount 1) s refl refl

pub distance-line-outcome : (s : List ℕ) → Outcome (NumberLine "d=" 1 most_distance s) OfForm (distance_line s)
unfolding distance_line any_of
distance-line-outcome s =
    number-line-outcome "d=" 1 1 most_distance (Refusal.Form 2) (Refusal.DistanceRange 2) s refl refl

-- ---- rows

row-line-outcome : (key : String) (n at : ℕ) (s : List ℕ)
    → Outcome (Took (λ P. line key (row_text n P)) (Row n) s) OfForm (row_line key n at s)
unfolding row_line
row-line-outcome key n at s = line-outcome key (n + 1) read_row (row_written n) (Refusal.Form at) s (form-refusal at)

-- Rows of n qubits with phases 0 to 3, so many at least and at most.
pub record ReadRows (n low high : ℕ) (rows : List Pauli) : Type 0 where
  pub each : all_of (is_row n) rows ≡ true
  pub phases : map modulo4 rows ≡ rows
  pub least : low ≤ length rows
  pub most : length rows ≤ high

pub row_count : {n k : ℕ} {rows : List Pauli} → ReadRows n k k rows → length rows ≡ k
row_count h = omega arith

abbrev pub RowLines : String → ℕ → ℕ → ℕ → List ℕ → List Pauli → List ℕ → Type 0
RowLines key n low high = Took (row_lines key n) (ReadRows n low high)

no_rows : (n high : ℕ) → ReadRows n 0 high []
unfolding all_of
no_rows n high = record { each = refl; phases = refl; least = omega arith; most = omega arith }

one-more-row : {n high : ℕ} {P : Pauli} {rows : List Pauli} → Row n P → ReadRows n 0 high rows
    → ReadRows n 0 (suc high) (P ∷ rows)
one-more-row h hs = record {
  each = rw (all_first, h.row) hs.each;
  phases = ap₂ ◌∷◌ h.phase hs.phases;
  least = omega arith;
  most = omega arith;
}

-- Lines that begin with the key, no more than so many: a row, and then the others.
rows-up-to-outcome : (most : ℕ) (key : String) (n at : ℕ) (s : List ℕ)
    → Outcome (RowLines key n 0 most s) OfForm (rows_up_to most key n at s)
unfolding rows_up_to row_lines flat_map done
rows-up-to-outcome zero key n at s = gets (record { lawful = no_rows n 0; bytes_read = refl })
rows-up-to-outcome (suc most) key n at s =
    cond-outcome (begins (bytes key) s)
    (λ e. continue-outcome (row-line-outcome key n at s) λ P s' h.
    continue-outcome (rows-up-to-outcome most key n (at + 1) s') λ rows rest hs. gets (record {
      lawful = one-more-row h.lawful hs.lawful;
      bytes_read = h.bytes_read ∙ rw (hs.bytes_read, append_assoc);
    }))
    (λ e. gets (record { lawful = no_rows n (suc most); bytes_read = refl }))

-- The same rows, where more is known of their count.
counted : (key : String) {n low high : ℕ} {s : List ℕ} {rows : List Pauli} {rest : List ℕ}
    → RowLines key n 0 high s rows rest → low ≤ length rows → RowLines key n low high s rows rest
counted key h many = record {
  lawful = record {
    each = h.lawful.each;
    phases = h.lawful.phases;
    least = many;
    most = h.lawful.most;
  };
  bytes_read = h.bytes_read;
}

pub generator-lines-outcome : (n at : ℕ) (s : List ℕ)
    → Outcome (RowLines "g=" n 1 (most_generators n) s) OfForm (generator_lines n at s)
unfolding generator_lines counted_generators
generator-lines-outcome n at s =
    continue-outcome (rows-up-to-outcome (most_generators n) "g=" n at s) λ rows rest h.
    cond-outcome (eqb (length rows) 0 || begins (bytes "g=") rest) (λ e. stops (count-refusal (at + length rows)))
    (λ e. gets (counted "g=" h (omega (arith, eqb-false (length rows) 0 (neither _ _ e).0))))

pub logical-lines-outcome : (k : ℕ) (key : String) (n at : ℕ) (s : List ℕ)
    → Outcome (RowLines key n k k s) OfForm (logical_lines k key n at s)
unfolding logical_lines counted_logicals
logical-lines-outcome k key n at s =
    continue-outcome (rows-up-to-outcome k key n at s) λ rows rest h.
    cond-outcome (ltb (length rows) k) (λ e. stops (form-refusal (at + length rows)))
    (λ e. gets (counted key h (ltb-false (length rows) k e)))

-- ---- the claim

abbrev pub ClaimLine : ℕ → List ℕ → Pauli → List ℕ → Type 0
ClaimLine n = Took (λ w. line "w=" (letter_text n w)) (Claim n)

pub claim-line-outcome : (n at : ℕ) (s : List ℕ) → Outcome (ClaimLine n s) OfForm (claim_line n at s)
unfolding claim_line
claim-line-outcome n at s = line-outcome "w=" n read_letters (claim-written n) (Refusal.Form at) s (form-refusal at)
