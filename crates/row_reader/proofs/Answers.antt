-- Readers within the qubits that a sheet may have, and the line of a family's row as one behind any key.
use Rattle.std.specs.Prelude.{Option, None}
use mathlib.Core.Bool.{true, false, cond}
use mathlib.Core.List.{List}
use mathlib.Core.Path.{◌≡◌, ap, sym, ◌∙◌}
use Prim.Native.Nat.{ℕ, ◌+◌, ◌<◌, ◌≤◌}
use Prim.Native.String.{String}
use native.Mathlib.Omega.{arith}
use borrow.Author.Tests.{le-ltb, lt-ltb}
use lib.Dec.{ltb}
use Rattle.pauli.specs.declared.Pauli.{Pauli}
use Rattle.letters.specs.Lists.{bytes}
use Rattle.refusals.specs.declared.Family.{Family}
use Rattle.refusals.specs.declared.Refusal.{Refusal}
use Rattle.refusals.specs.Families.{row_key}
use Rattle.code_record.specs.Record.{most_qubits}
use Rattle.sheet.specs.Reader.{Reader, stop, begins, line_of, read_row, is_line, row_line}
use Rattle.line_parts.specs.LineValues.{key_of}
use Rattle.line_kinds.proofs.Keys.{key-taken, row_kind, row-key}
use Rattle.row_reader.specs.declared.RowRead.{RowRead}
use Rattle.row_reader.specs.Answers.{row_behind_key, within_qubits, bytes_of, row_at, AnswersRow}

-- Up to the most qubits, and beyond.
module _ {A : Type 0} (n at : ℕ) (reader : Reader A) (s : List ℕ) where
  pub few-qubits : n ≤ most_qubits → within_qubits n at reader s ≡ reader s
  unfolding within_qubits
  few-qubits h = rw (le-ltb most_qubits n h)

  pub many-qubits : most_qubits < n → within_qubits n at reader s ≡ stop (Refusal.Form at)
  unfolding within_qubits
  many-qubits h = rw (lt-ltb most_qubits n h)

-- No row was read, where the definition has none.
pub answers-none : {s : List ℕ} {r : Option RowRead} {definition : ℕ → Reader Pauli} → r ≡ None
    → ((at : ℕ) → definition at s ≡ stop (Refusal.Form at)) → AnswersRow s r definition
answers-none {s} e stops =
    record { within = omega (arith, ap bytes_of e); gives = λ at. ap (row_at at s) e ∙ sym (stops at) }

-- Readers that give the same for these bytes.
pub within_same : {A : Type 0} (n at : ℕ) (reader other : Reader A) (s : List ℕ) → reader s ≡ other s
    → within_qubits n at reader s ≡ within_qubits n at other s
unfolding within_qubits
within_same n at reader other s e = ap (cond (ltb most_qubits n) (stop (Refusal.Form at))) e

-- The line of a row: it begins with its key, or is off its form.
pub row-not-begun : (key : String) (n at : ℕ) (s : List ℕ) → begins (bytes key) s ≡ false
    → row_line key n at s ≡ stop (Refusal.Form at)
unfolding row_line line_of is_line
row-not-begun key n at s e = rw e

pub row-line-form : (family : Family) (n at : ℕ) (s : List ℕ) → begins (bytes (row_key family)) s ≡ true
    → row_line (row_key family) n at s ≡ row_behind_key n at s
unfolding row_line key_of
row-line-form family n at s e =
    ap (λ key. line_of key (n + 1) read_row (Refusal.Form at) s)
    (row-key family ∙ key-taken (row_kind family) s (ap (λ key. begins key s) (sym (row-key family)) ∙ e))
