-- The text of a record's canonical generators, where the record passes 15 and 6 to 8: it is that of the rows, and the
-- call for these then answers as that for the record.
use Rattle.std.specs.Prelude.{None}
use mathlib.Core.List.{List}
use mathlib.Core.Path.{◌≡◌, refl, ap, ap₂, ◌∙◌}
use Prim.Native.Nat.{ℕ}
use Rattle.letters.specs.Lists.{bytes}
use Rattle.code_record.specs.declared.Code.{Code}
use Rattle.code_record.specs.Record.{generators, qubit_fault}
use Rattle.code_record.proofs.Limits.{limits}
use Rattle.sheet.specs.Text.{written}
use Rattle.sheet.specs.Writer.{row_lines}
use Rattle.row_writer.proofs.Lines.{qubits-within}
use Rattle.rows_writer.specs.Rows.{rows_text, write_rows}
use Rattle.rows_writer.proofs.Rows.{rows-keyed}
use Rattle.stabilizer.specs.Canonical.{canonical_generators, canonical_text, write_canonical}
use Rattle.stabilizer.specs.Checks.{group_fault}
use Rattle.reduced_rows.specs.declared.ReducedRows.{ReducedRows}
use Rattle.reduced_rows.specs.Rows.{rows_in, reduced_of}
use Rattle.reduced_rows.proofs.Rows.{rows_of}
use Rattle.elimination.proofs.Passed.{passed-within}

module _
    (c : Code) (passes : None ≡ group_fault c) (hs : ReducedRows)
    (found : hs ≡ reduced_of c.n (canonical_generators c.n (generators c))) where
  no-fault : qubit_fault c.n ≡ group_fault c
  no-fault =
      let l = limits c (passed-within c passes) in
      qubits-within c.n l.qubits.0 l.qubits.1 ∙ passes

  pub text-is : rows_text 104 c.n (rows_in hs) ≡ canonical_text c
  unfolding canonical_text bytes
  text-is =
      rows-keyed "h=" 104 c.n (rows_in hs) refl
      ∙ ap (row_lines "h=" c.n) (ap rows_in found ∙ rows_of c.n (canonical_generators c.n (generators c)))

  pub same_answer : (buffer : List ℕ) → write_rows 104 c.n (rows_in hs) buffer ≡ write_canonical c buffer
  unfolding write_rows write_canonical
  same_answer buffer = ap₂ (λ fault text. written fault text buffer) no-fault text-is
