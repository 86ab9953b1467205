-- The reading of a sheet, from the outcome of its definition.
use Rattle.std.specs.Prelude.{Result, Ok, Err}
use mathlib.Core.List.{List}
use mathlib.Core.Path.{◌≡◌, ap, sym, ◌∙◌}
use Prim.Native.Nat.{ℕ, ◌≤◌}
use lib.ListN.{length, drop}
use Rattle.refusals.specs.declared.Refusal.{Refusal}
use Rattle.code_record.specs.declared.LinesReading.{LinesReading}
use Rattle.code_record.specs.Record.{empty_beside}
use Rattle.sheet.specs.Reader.{Parsed, SheetRead, got, stop, answered}
use Rattle.sheet.proofs.Reading.{bytes-used}

module _ (s : List ℕ) {definition : Parsed SheetRead} where
  pub sheet-refused : {reading : LinesReading} {answer : Result ℕ Refusal} {refusal : Refusal}
      → reading ≡ empty_beside answer → answer ≡ Err refusal → definition ≡ stop refusal
      → reading ≡ answered s definition
  unfolding answered
  sheet-refused r a e = r ∙ ap empty_beside a ∙ ap (answered s) (sym e)

  pub sheet-read : {used : ℕ} {q : SheetRead} → used ≤ length s → definition ≡ got q (drop used s)
      → record { answer = Ok used; claim_at = q.claim_at; code = q.code } ≡ answered s definition
  unfolding answered
  sheet-read {used} {q} h e =
      ap (λ m. record { answer = Ok m; claim_at = q.claim_at; code = q.code }) (bytes-used s used h)
      ∙ ap (answered s) (sym e)
