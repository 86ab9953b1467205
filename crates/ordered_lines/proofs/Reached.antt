-- What a reader answers, against its definition: the value, and where the rest begins.
use Rattle.std.specs.Prelude.{Result, Ok, Err}
use mathlib.Core.List.{List, ◌++◌, append_assoc}
use mathlib.Core.Path.{◌≡◌, refl, ap, sym, subst, ◌∙◌}
use Prim.Native.Nat.{ℕ, ◌+◌, ◌-◌, ◌≤◌}
use native.Mathlib.Omega.{arith}
use lib.ListN.{length, drop, length-append, length-drop}
use lib.Seq.{drop-drop, drop_at}
use Rattle.pauli.specs.declared.Pauli.{Pauli}
use Rattle.refusals.specs.declared.Refusal.{Refusal}
use Rattle.code_record.specs.Record.{most_qubits, row_room, filled}
use Rattle.sheet.specs.Reader.{Parsed, got, stop, done, generator_lines}
use Rattle.sheet.specs.Writer.{row_lines}
use Rattle.sheet.proofs.Consumed.{OfForm, generator-lines-outcome, logical-lines-outcome}
use Rattle.sheet.proofs.Outcome.{Outcome, gets, stops, continue-outcome, Took}
use Rattle.row_reader.specs.Answers.{within_qubits}
use Rattle.row_reader.proofs.Answers.{few-qubits}
use Rattle.rows_reader.specs.declared.Rows.{Rows}
use Rattle.rows_reader.specs.declared.Logicals.{Logicals}
use Rattle.rows_reader.specs.declared.RowsFault.{RowsFault}
use Rattle.rows_reader.specs.Answers.{refusal_at, lines_at, rows_answer, AnswersRows}
use Rattle.rows_reader.specs.Answers.{pair_lines, logicals_answer, AnswersLogicals}
use Rattle.ordered_lines.specs.Answers.{counted_rows, filled_logicals}

-- The definition gives the value, and what is left begins at a place.
pub record Reached {A : Type 0} (s : List ℕ) (end : ℕ) (value : A) (definition : Parsed A) : Type 0 where
  pub within : end ≤ length s
  pub gives : definition ≡ got value (drop end s)

-- Where the bytes that were read are a text of the value, the rest begins behind it.
pub reached_of : {A : Type 0} {text : A → List ℕ} {Law : A → Type 0} {s : List ℕ} {a : A} {rest : List ℕ}
    → Took text Law s a rest → Reached s (length s - length rest) a (got a rest)
reached_of {text = text} {s = s} {a = a} {rest = rest} h =
    let whole = ap length h.bytes_read ∙ length-append (text a) rest in
    let used : length s - length rest ≡ length (text a) = omega (arith, whole) in
    record {
      within = omega (arith, whole);
      gives =
          ap (got a)
          (sym
          (ap (λ m. drop m s) used ∙ ap (drop (length (text a))) h.bytes_read
          ∙ drop_at (text a) rest (length (text a)) refl));
    }

-- The same of the bytes from a place on.
pub reached-more : {A : Type 0} {value : A} {definition : Parsed A} (from more : ℕ) (s : List ℕ) → from ≤ length s
    → Reached (drop from s) more value definition → Reached s (from + more) value definition
reached-more {value = value} from more s fits h =
    record {
      within = omega (arith, h.within, length-drop from s);
      gives = h.gives ∙ ap (got value) (drop-drop more from s);
    }

-- ---- the g lines, and the rows that their array holds

pub record RowsReached (s : List ℕ) (rows : Rows) (definition : Parsed (List Pauli)) : Type 0 where
  pub read : List Pauli
  pub held : counted_rows read ≡ (rows.count, rows.rows)
  pub reached : Reached s rows.used read definition

module _ {Stop : Refusal → Type 0} {text : List Pauli → List ℕ} {Law : List Pauli → Type 0} (s : List ℕ) where
  rows-reached : {p : Parsed (List Pauli)} {rows : Rows} → Outcome (Took text Law s) Stop p → Ok rows ≡ rows_answer s p
      → RowsReached s rows p
  unfolding rows_answer
  rows-reached {rows = rows} (gets {a = gs} {rest = rest} h) e =
      let same : rows ≡ record { used = length s - length rest; count = length gs; rows = filled row_room gs } = cc in
      subst (λ rows. RowsReached s rows (got gs rest)) (sym same)
      (record { read = gs; held = refl; reached = reached_of h })
  rows-reached (stops h) e = absurd (let z : ◌≡◌ {A = ℕ} 0 1 = cc in omega arith)

rows-stopped : (s : List ℕ) {p : Parsed (List Pauli)} {refusal : Refusal} → Err refusal ≡ rows_answer s p
    → p ≡ stop refusal
unfolding rows_answer
rows-stopped s {p = got gs rest} e = absurd (let z : ◌≡◌ {A = ℕ} 0 1 = cc in omega arith)
rows-stopped s {p = stop refusal} e = cc

module _ (n at : ℕ) (s : List ℕ) (few : n ≤ most_qubits) (r : Result Rows RowsFault)
    (h : AnswersRows s r (λ at. within_qubits n at (generator_lines n at))) where
  rows-answered : lines_at at r ≡ rows_answer s (generator_lines n at s)
  rows-answered = h at ∙ ap (rows_answer s) (few-qubits n at (generator_lines n at) s few)

  pub generators-reached : {rows : Rows} → r ≡ Ok rows → RowsReached s rows (generator_lines n at s)
  generators-reached e =
      rows-reached s (generator-lines-outcome n at s) (ap (lines_at at) (sym e) ∙ rows-answered)

  pub generators-refused : {fault : RowsFault} → r ≡ Err fault → generator_lines n at s ≡ stop (refusal_at at fault)
  generators-refused e = rows-stopped s (ap (lines_at at) (sym e) ∙ rows-answered)

-- ---- the x and z lines in the same way

abbrev logical_text : ℕ → List Pauli × List Pauli → List ℕ
logical_text n ls = row_lines "x=" n ls.0 ++ row_lines "z=" n ls.1

pair-lines-outcome : (k n at : ℕ) (s : List ℕ)
    → Outcome (Took (logical_text n) (λ ls. Unit {0}) s) OfForm (pair_lines k n at s)
unfolding pair_lines done
pair-lines-outcome k n at s =
    continue-outcome (logical-lines-outcome k "x=" n at s) λ xs t h.
    continue-outcome (logical-lines-outcome k "z=" n (at + k) t) λ zs rest hs. gets (record {
      lawful = tt;
      bytes_read = h.bytes_read ∙ rw (hs.bytes_read, append_assoc);
    })

pub record LogicalsReached (s : List ℕ) (rows : Logicals) (definition : Parsed (List Pauli × List Pauli)) : Type 0 where
  pub read : List Pauli × List Pauli
  pub held : filled_logicals read.0 read.1 ≡ (rows.x, rows.z)
  pub reached : Reached s rows.used read definition

module _ {Stop : Refusal → Type 0} {text : List Pauli × List Pauli → List ℕ} {Law : List Pauli × List Pauli → Type 0}
    (s : List ℕ) where
  pairs-reached : {p : Parsed (List Pauli × List Pauli)} {rows : Logicals} → Outcome (Took text Law s) Stop p
      → Ok rows ≡ logicals_answer s p → LogicalsReached s rows p
  unfolding logicals_answer
  pairs-reached {rows = rows} (gets {a = ls} {rest = rest} h) e =
      let same : rows ≡ record {
        used = length s - length rest;
        x = filled row_room ls.0;
        z = filled row_room ls.1;
      } = cc in
      subst (λ rows. LogicalsReached s rows (got ls rest)) (sym same)
      (record { read = ls; held = refl; reached = reached_of h })
  pairs-reached (stops h) e = absurd (let z : ◌≡◌ {A = ℕ} 0 1 = cc in omega arith)

pairs-stopped : (s : List ℕ) {p : Parsed (List Pauli × List Pauli)} {refusal : Refusal}
    → Err refusal ≡ logicals_answer s p → p ≡ stop refusal
unfolding logicals_answer
pairs-stopped s {p = got ls rest} e = absurd (let z : ◌≡◌ {A = ℕ} 0 1 = cc in omega arith)
pairs-stopped s {p = stop refusal} e = cc

module _ (k n at : ℕ) (s : List ℕ) (few : n ≤ most_qubits) (r : Result Logicals RowsFault)
    (h : AnswersLogicals s r (λ at. within_qubits n at (pair_lines k n at))) where
  logicals-answered : lines_at at r ≡ logicals_answer s (pair_lines k n at s)
  logicals-answered = h at ∙ ap (logicals_answer s) (few-qubits n at (pair_lines k n at) s few)

  pub logicals-reached : {rows : Logicals} → r ≡ Ok rows → LogicalsReached s rows (pair_lines k n at s)
  logicals-reached e = pairs-reached s (pair-lines-outcome k n at s) (ap (lines_at at) (sym e) ∙ logicals-answered)

  pub logicals-refused : {fault : RowsFault} → r ≡ Err fault → pair_lines k n at s ≡ stop (refusal_at at fault)
  logicals-refused e = pairs-stopped s (ap (lines_at at) (sym e) ∙ logicals-answered)
