-- The reading of a sheet by what its form and its checks answered. A record that was read is within limits, so that the
-- checks do not begin with 15.
use Rattle.std.specs.Prelude.{Ok, Err}
use mathlib.Core.Bool.{true}
use mathlib.Core.List.{List, []}
use mathlib.Core.Path.{◌≡◌, refl, ap, ap₂, sym, ◌∙◌}
use Prim.Native.Nat.{ℕ, ◌+◌, ◌-◌, ◌<◌, ◌≤◌}
use native.Mathlib.Omega.{arith}
use lib.ListN.{length, length-drop}
use Rattle.code_record.specs.declared.LinesReading.{LinesReading}
use Rattle.code_record.specs.Record.{limits_fault, within_limits}
use Rattle.code_record.proofs.Limits.{within-later}
use Rattle.refusals.specs.declared.Refusal.{Refusal}
use Rattle.refusals.specs.Refusals.{◌then◌}
use Rattle.code_record.specs.Record.{empty_beside}
use Rattle.sheet.specs.Reader.{Parsed, SheetRead, got, stop, read_lines, read_form, answered, lines_reading}
use Rattle.sheet.specs.Reader.{form_reading}
use Rattle.sheet.specs.Reader.{behind}
use Rattle.sheet.proofs.ReadBack.{reads-are-lawful, read-within as rest-within}
use Rattle.sheet_end.proofs.Form.{claim-near, form-refused as refused-form, form-behind, form-whole}
use Rattle.admission.specs.Admission.{code_fault, refused_reading, reading_of, checked, read_sheet}
use Rattle.admission.proofs.Admitted.{form-has-nothing-behind}

-- The record that the checks are made on is within limits.
pub read-within : (s : List ℕ) (q : SheetRead) (rest : List ℕ) → read_form s ≡ got q rest → within_limits q.code ≡ true
read-within s q rest form = (reads-are-lawful s q [] (form-has-nothing-behind s q rest form)).limits

module _ (s : List ℕ) (form : LinesReading) where
  refused-by : (p : Parsed SheetRead) {refusal : Refusal} → form ≡ answered s p → form.answer ≡ Err refusal
      → refused_reading refusal ≡ checked p
  unfolding answered checked
  refused-by (got q rest) e told = absurd (let z : ◌≡◌ {A = ℕ} 0 1 = cc (ap (λ x. x.answer) e) in omega arith)
  refused-by (stop refusal) e told = ap refused_reading (cc (ap (λ x. x.answer) e))

  decided-by : (p : Parsed SheetRead) {used : ℕ} → form ≡ answered s p → form.answer ≡ Ok used
      → ((q : SheetRead) (rest : List ℕ) → p ≡ got q rest → within_limits q.code ≡ true)
      → reading_of form.code (limits_fault form.code then code_fault form.claim_at form.code) ≡ checked p
  unfolding answered checked
  decided-by (got q rest) e told within =
      let code = ap (λ x. x.code) e in
      ap₂ reading_of code
      (ap₂ (λ c at. limits_fault c then code_fault at c) code (ap (λ x. x.claim_at) e)
      ∙ sym (within-later q.code (code_fault q.claim_at q.code) (within q rest refl)))
  decided-by (stop refusal) e told within =
      absurd (let z : ◌≡◌ {A = ℕ} 0 1 = cc (ap (λ x. x.answer) e) in omega arith)

  within_by : (p : Parsed SheetRead) {used : ℕ} → form ≡ answered s p → form.answer ≡ Ok used
      → ((q : SheetRead) (rest : List ℕ) → p ≡ got q rest → within_limits q.code ≡ true)
      → within_limits form.code ≡ true
  unfolding answered
  within_by (got q rest) e told within = ap (λ x. within_limits x.code) e ∙ within q rest refl
  within_by (stop refusal) e told within =
      absurd (let z : ◌≡◌ {A = ℕ} 0 1 = cc (ap (λ x. x.answer) e) in omega arith)

  module _ (known : form ≡ form_reading s) where
    pub form-refused : {refusal : Refusal} → form.answer ≡ Err refusal
        → refused_reading refusal ≡ read_sheet s
    unfolding form_reading read_sheet
    form-refused told = refused-by (read_form s) known told

    pub checks-decide : {used : ℕ} → form.answer ≡ Ok used
        → reading_of form.code (limits_fault form.code then code_fault form.claim_at form.code) ≡ read_sheet s
    unfolding form_reading read_sheet
    checks-decide told = decided-by (read_form s) known told (read-within s)

    pub form-within : {used : ℕ} → form.answer ≡ Ok used → within_limits form.code ≡ true
    unfolding form_reading
    form-within told = within_by (read_form s) known told (read-within s)

-- ---- by the lines and what is behind them

module _ (s : List ℕ) (reading : LinesReading) (known : reading ≡ lines_reading s) where
  is_read : reading ≡ answered s (read_lines s)
  unfolding lines_reading
  is_read = known

  pub claim-small : reading.claim_at < 100
  claim-small = omega (arith, ap (λ x. x.claim_at) is_read, claim-near s (read_lines s) (reads-are-lawful s))

  pub lines-refused : {refusal : Refusal} → reading.answer ≡ Err refusal
      → refused_reading refusal ≡ read_sheet s
  unfolding form_reading read_form
  lines-refused told = form-refused s reading (refused-form s reading (read_lines s) is_read told) told

  module _ {used : ℕ} (told : reading.answer ≡ Ok used) where
    left : length (behind s reading.answer) ≡ length s - used
    unfolding behind
    left = ap (λ a. length (behind s a)) told ∙ length-drop used s

    pub bytes-behind : 0 < length (behind s reading.answer)
        → refused_reading (Refusal.Form (reading.claim_at + 1)) ≡ read_sheet s
    unfolding form_reading read_form
    bytes-behind some =
        let fewer : used < length s = omega (arith, left) in
        form-refused s (empty_beside (Err (Refusal.Form (reading.claim_at + 1))))
        (form-behind s reading told (read_lines s) is_read fewer) refl

    pub nothing-behind : length (behind s reading.answer) ≤ 0 → reading ≡ form_reading s
    unfolding form_reading read_form
    nothing-behind none =
        form-whole s reading told (read_lines s) is_read (omega (arith, left)) (rest-within s)
