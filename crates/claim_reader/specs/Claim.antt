-- What the reader of w answers, in the terms of the sheet's definitions.
use Rattle.std.specs.Prelude.{cond, ℕ, ltb, length, drop}
use Rattle.pauli.specs.declared.Pauli.{Pauli}
use Rattle.refusals.specs.declared.Refusal.{Refusal}
use Rattle.code_record.specs.declared.Code.{Code}
use Rattle.sheet.specs.Reader.{Reader, SheetRead, stop, done, ◌and_then◌, claim_line}
use Rattle.row_reader.specs.Answers.{within_qubits}
use Rattle.rows_reader.specs.declared.Rows.{Rows}
use Rattle.rows_reader.specs.declared.Logicals.{Logicals}

-- The record of the rows as their arrays hold them.
abbrev pub held_code : (n d : ℕ) → Rows → Logicals → Pauli → Code
held_code n d generators logicals w = record {
  n = n;
  r = generators.count;
  d = d;
  g = generators.rows;
  x = logicals.x;
  z = logicals.z;
  w = w;
}

-- RULES, "The sheet": the line of w, which is the line `at`, and the record. From a byte on: where there is no such
-- byte, the line is off its form.
abbrev pub claim_and_record : (n d at : ℕ) → Rows → Logicals → Reader SheetRead
claim_and_record n d at generators logicals =
    within_qubits n at (claim_line n at) and_then λ w.
    done (record { code = held_code n d generators logicals w; claim_at = at })

unfoldable pub claim_after : (from n d at : ℕ) → Rows → Logicals → Reader SheetRead
claim_after from n d at generators logicals s =
    cond (ltb (length s) from) (stop (Refusal.Form at)) (claim_and_record n d at generators logicals (drop from s))
