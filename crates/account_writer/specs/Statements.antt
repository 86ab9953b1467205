-- What is stated of the account of a code.
use Rattle.std.specs.Prelude.{None, List, ◌≡◌, ℕ}
use Rattle.code_record.specs.declared.Code.{Code}
use Rattle.code_record.specs.Record.{generators}
use Rattle.sheet.specs.Text.{written}
use Rattle.stabilizer.specs.Canonical.{canonical_generators}
use Rattle.stabilizer.specs.Checks.{group_fault}
use Rattle.reduced_rows.specs.Rows.{reduced_of}
use Rattle.account_writer.specs.Account.{account_text, write_account}

-- RULES, "The report": of a record that passes 15 and 6 to 8, the call writes by its canonical generators what a report
-- says of it, and refuses with 17 alone.
abbrev pub AccountIsOfRecord : Type 0
AccountIsOfRecord =
    (c : Code) → group_fault c ≡ None → (s buffer : List ℕ)
    → write_account c (reduced_of c.n (canonical_generators c.n (generators c))) s buffer
    ≡ written None (account_text c s) buffer
