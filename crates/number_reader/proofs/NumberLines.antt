-- The lines of n and d: a number behind a key, and its range.
use Rattle.std.specs.Prelude.{Result, Ok, Err}
use mathlib.Core.Bool.{Bool, true, false, cond}
use mathlib.Core.List.{List}
use mathlib.Core.Path.{◌≡◌, refl, ap, sym, ◌∙◌}
use Prim.Native.Nat.{ℕ, ◌<◌, ◌≤◌}
use native.Mathlib.Omega.{arith}
use lib.Dec.{eqb}
use lib.ListN.{length, drop, get_or}
use Rattle.letters.specs.Lists.{bytes}
use Rattle.refusals.specs.declared.Refusal.{Refusal}
use Rattle.code_record.specs.Record.{between, most_qubits, most_distance}
use Rattle.sheet.specs.Reader.{Parsed, Reader, got, stop, done, continue, in_range, line_of, read_number}
use Rattle.sheet.specs.Reader.{qubit_digits, qubit_line, distance_line}
use Rattle.sheet.specs.Text.{line_feed}
use Rattle.sheet.proofs.Reading.{bytes-used, then-stop}
use Rattle.line_kinds.specs.declared.LineKind.{LineKind}
use Rattle.line_kinds.specs.LineKinds.{kind_byte, kind_key, line_kind}
use Rattle.line_parts.specs.Values.{most_digits}
use Rattle.line_parts.proofs.LineValues.{line-of-kind, line-of-other}
use Rattle.number_reader.specs.declared.NumberLine.{NumberLine}
use Rattle.number_reader.specs.Answers.{number_behind_key, number_answer}

-- ---- a number that was read, and its range

module _ (s : List ℕ) (used : ℕ) (within : used ≤ length s) where
  pub number_read : {p : Parsed ℕ} (m : ℕ) → p ≡ got m (drop used s)
      → Ok (record { used = used; number = m }) ≡ number_answer s p
  unfolding number_answer
  number_read m e =
      ap (λ k. Ok (record { used = k; number = m })) (bytes-used s used within) ∙ ap (number_answer s) (sym e)

pub number-refused : (s : List ℕ) {p : Parsed ℕ} {refusal : Refusal} → p ≡ stop refusal
    → Err refusal ≡ number_answer s p
unfolding number_answer
number-refused s e = ap (number_answer s) (sym e)

module _ (low high : ℕ) (refusal : Refusal) {p : Parsed ℕ} {m : ℕ} {rest : List ℕ} (e : p ≡ got m rest) where
  pub range-refused : between low high m ≡ false → continue p (in_range low high refusal) ≡ stop refusal
  unfolding continue in_range
  range-refused h = rw (e, h)

  pub range-kept : between low high m ≡ true → continue p (in_range low high refusal) ≡ p
  unfolding continue in_range done
  range-kept h = rw (e, h)

-- ---- the lines of a kind

-- A number behind the key of a kind, and in a range.
abbrev number_of : LineKind → (digits at low high : ℕ) → Refusal → Reader ℕ
number_of k digits at low high outside s =
    continue (line_of (kind_key k) digits read_number (Refusal.Form at) s) (in_range low high outside)

pub qubit-line-form : (s : List ℕ)
    → qubit_line s ≡ number_of LineKind.Qubits (qubit_digits s) 1 2 most_qubits (Refusal.QubitCount 1) s
unfolding qubit_line bytes
qubit-line-form s = refl

pub distance-line-form : (s : List ℕ)
    → distance_line s ≡ number_of LineKind.Distance 1 2 1 most_distance (Refusal.DistanceRange 2) s
unfolding distance_line bytes
distance-line-form s = refl

-- A line of another kind is refused; behind the kind's key, any key will do.
module _ (k : LineKind) (digits at low high : ℕ) (outside : Refusal) (s : List ℕ) {definition : Parsed ℕ}
    (form : definition ≡ number_of k digits at low high outside s) {kind : LineKind} (told : kind ≡ line_kind s) where
  pub number-of-other : (kind ≡ k → ⊥) → Err (Refusal.Form at) ≡ number_answer s definition
  number-of-other other =
      number-refused s (form ∙ then-stop _ (line-of-other k _ _ _ s (λ f. other (told ∙ f))))

  pub number-of-kind : 0 < kind_byte k → kind ≡ k → {m : ℕ} → m ≡ digits → {r : Result NumberLine Refusal}
      → r ≡ number_answer s (continue (number_behind_key m at s) (in_range low high outside))
      → r ≡ number_answer s definition
  number-of-kind keyed f same e =
      e ∙ ap (λ m. number_answer s (continue (number_behind_key m at s) (in_range low high outside))) same
      ∙ ap (λ p. number_answer s (continue p (in_range low high outside)))
      (sym (line-of-kind k digits read_number (Refusal.Form at) s keyed (sym told ∙ f)))
      ∙ ap (number_answer s) (sym form)

pub digits-few : (s : List ℕ) → qubit_digits s ≤ most_digits
unfolding qubit_digits
digits-few s = few (eqb (get_or s 3 0) line_feed)
  where
    few : (b : Bool) → cond b 1 2 ≤ most_digits
    few true = omega arith
    few false = omega arith
