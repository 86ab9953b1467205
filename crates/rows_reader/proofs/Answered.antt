-- The answers for lines of rows, against what the definition gives.
use Rattle.std.specs.Prelude.{Ok, Err}
use mathlib.Core.List.{List}
use mathlib.Core.Path.{◌≡◌, ap, sym, ◌∙◌}
use Prim.Native.Nat.{ℕ, ◌+◌, ◌≤◌}
use lib.ListN.{length, drop}
use lib.Seq.{drop-drop}
use Rattle.pauli.specs.declared.Pauli.{Pauli}
use Rattle.refusals.specs.declared.Refusal.{Refusal}
use Rattle.sheet.specs.Reader.{Parsed, Reader, got, stop, done, continue, logical_lines}
use Rattle.sheet.proofs.Reading.{bytes-used, then-got, then-stop}
use Rattle.rows_reader.specs.Answers.{rows_answer, pair_lines, logicals_answer}
use Rattle.rows_reader.proofs.Counted.{Held}

-- ---- g lines

module _ (s : List ℕ) {p : Parsed (List Pauli)} where
  pub rows_none : {refusal : Refusal} → p ≡ stop refusal → Err refusal ≡ rows_answer s p
  unfolding rows_answer
  rows_none e = ap (rows_answer s) (sym e)

  pub rows-given : {used count : ℕ} {rows : List Pauli} → used ≤ length s → Held s used count rows p
      → Ok (record { used = used; count = count; rows = rows }) ≡ rows_answer s p
  unfolding rows_answer
  rows-given {used} within h =
      (λ i. Ok (record { used = bytes-used s used within i; count = sym h.counted i; rows = h.held i }))
      ∙ ap (rows_answer s) (sym h.gives)

-- ---- x and z lines

pub logicals-none : (s : List ℕ) {p : Parsed (List Pauli × List Pauli)} {refusal : Refusal} → p ≡ stop refusal
    → Err refusal ≡ logicals_answer s p
unfolding logicals_answer
logicals-none s e = ap (logicals_answer s) (sym e)

module _ (k n at : ℕ) (s : List ℕ) where
  -- the readers that follow x
  abbrev with-z : List Pauli → Reader (List Pauli × List Pauli)
  with-z xs t = continue (logical_lines k "z=" n (at + k) t) (λ zs. done (xs, zs))

  pub x-refused : {refusal : Refusal} → logical_lines k "x=" n at s ≡ stop refusal → pair_lines k n at s ≡ stop refusal
  unfolding pair_lines
  x-refused e = then-stop with-z e

  module _ {used count : ℕ} {x-rows : List Pauli}
      (x : Held s used count x-rows (logical_lines k "x=" n at s)) where
    to-z : pair_lines k n at s ≡ with-z x.read (drop used s)
    unfolding pair_lines
    to-z = then-got with-z x.gives

    pub z-refused : {refusal : Refusal} → logical_lines k "z=" n (at + k) (drop used s) ≡ stop refusal
        → pair_lines k n at s ≡ stop refusal
    z-refused e = to-z ∙ then-stop (λ zs. done (x.read, zs)) e

    pub pairs-given : {end z-count : ℕ} {z-rows : List Pauli}
        → Held (drop used s) end z-count z-rows (logical_lines k "z=" n (at + k) (drop used s))
        → used + end ≤ length s
        → Ok (record { used = used + end; x = x-rows; z = z-rows }) ≡ logicals_answer s (pair_lines k n at s)
    unfolding logicals_answer done
    pairs-given {end} z within =
        let whole : pair_lines k n at s ≡ got (x.read, z.read) (drop (used + end) s) =
        to-z ∙ then-got (λ zs. done (x.read, zs)) z.gives ∙ ap (got (x.read, z.read)) (drop-drop end used s) in
        (λ i. Ok (record { used = bytes-used s (used + end) within i; x = x.held i; z = z.held i }))
        ∙ ap (logicals_answer s) (sym whole)
