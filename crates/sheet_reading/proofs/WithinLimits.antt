-- Records that were read are within limits: of the three readings each has its record from the lines of a sheet.
use Rattle.std.specs.Prelude.{Option, Some, None, Ok}
use mathlib.Core.Bool.{true, not}
use mathlib.Core.List.{List}
use mathlib.Core.Path.{◌≡◌, refl, ap}
use Prim.Native.Nat.{ℕ}
use native.Mathlib.Omega.{arith}
use Rattle.code_record.specs.declared.Code.{Code}
use Rattle.code_record.specs.Record.{limits_fault, within_limits}
use Rattle.refusals.specs.declared.Refusal.{Refusal}
use Rattle.refusals.specs.Refusals.{refuse_if}
use Rattle.sheet.specs.Reader.{Parsed, SheetRead, got, stop, read_lines, read_form, answered, lines_reading}
use Rattle.sheet.specs.Reader.{form_reading}
use Rattle.sheet.proofs.ReadBack.{reads-are-lawful}
use Rattle.admission.specs.Admission.{code_fault, refused_reading, admitted, reading_of, checked, read_sheet}
use Rattle.sheet_reading.specs.Statements.{ReadRecordsAreWithinLimits}
use Rattle.sheet_reading.proofs.FormChecked.{read-within}

not-refused : (c : Code) → within_limits c ≡ true → limits_fault c ≡ None
unfolding limits_fault refuse_if
not-refused c within = ap (λ t. refuse_if (not t) Refusal.RecordLimits) within

module _ (s : List ℕ) (p : Parsed SheetRead)
    (lawful : (q : SheetRead) (rest : List ℕ) → p ≡ got q rest → within_limits q.code ≡ true) where
  answered-within : (r : Parsed SheetRead) → p ≡ r → (used : ℕ) → (answered s r).answer ≡ Ok used
      → limits_fault (answered s r).code ≡ None
  unfolding answered
  answered-within (got q rest) e used told = not-refused q.code (lawful q rest e)
  answered-within (stop refusal) e used told = absurd (let z : ◌≡◌ {A = ℕ} 0 1 = cc in omega arith)

  by-fault : (c : Code) → limits_fault c ≡ None → (fault : Option Refusal)
      → (reading_of c fault).answer ≡ Ok tt
      → limits_fault (reading_of c fault).code ≡ None
  unfolding reading_of admitted refused_reading
  by-fault c within None told = within
  by-fault c within (Some refusal) told = absurd (let z : ◌≡◌ {A = ℕ} 0 1 = cc in omega arith)

  checked-within : (r : Parsed SheetRead) → p ≡ r → (checked r).answer ≡ Ok tt
      → limits_fault (checked r).code ≡ None
  unfolding checked refused_reading
  checked-within (got q rest) e told =
      by-fault q.code (not-refused q.code (lawful q rest e)) (code_fault q.claim_at q.code) told
  checked-within (stop refusal) e told = absurd (let z : ◌≡◌ {A = ℕ} 0 1 = cc in omega arith)

pub read-records-are-within-limits : ReadRecordsAreWithinLimits
unfolding lines_reading form_reading read_sheet
read-records-are-within-limits = record {
  lines = λ s. answered-within s (read_lines s) (λ q rest e. (reads-are-lawful s q rest e).limits) (read_lines s) refl;
  form = λ s. answered-within s (read_form s) (read-within s) (read_form s) refl;
  sheet = λ s. checked-within s (read_form s) (read-within s) (read_form s) refl;
}
