-- A sheet by itself: what the bytes behind its lines make of the reading.
use Rattle.std.specs.Prelude.{Ok, Err}
use mathlib.Core.List.{List, [], ◌∷◌}
use mathlib.Core.Path.{◌≡◌, refl, ap}
use Prim.Native.Nat.{ℕ, suc, ◌+◌, ◌-◌, ◌<◌, ◌≤◌}
use native.Mathlib.Omega.{arith}
use lib.ListN.{length}
use Rattle.code_record.specs.declared.LinesReading.{LinesReading}
use Rattle.refusals.specs.declared.Refusal.{Refusal}
use Rattle.code_record.specs.Record.{pair_count, logical_count, generators_at, logicals_at, claim_at, empty_beside}
use Rattle.code_record.proofs.Limits.{limits}
use Rattle.sheet.specs.Reader.{Parsed, SheetRead, got, stop, continue, nothing_behind, answered}
use Rattle.sheet.specs.Statements.{ReadIsLawful}

-- The line of w is one of few.
pub claim-near : (s : List ℕ) (p : Parsed SheetRead)
    → ((q : SheetRead) (rest : List ℕ) → p ≡ got q rest → ReadIsLawful q)
    → (answered s p).claim_at < 100
unfolding answered claim_at logicals_at generators_at logical_count pair_count
claim-near s (got q rest) lawful =
    let h = lawful q rest refl in
    let l = limits q.code h.limits in omega (arith, h.claim, l.qubits, l.generator_count)
claim-near s (stop refusal) lawful = omega arith

module _ (s : List ℕ) (reading : LinesReading) where
  pub form-refused : {refusal : Refusal} (p : Parsed SheetRead) → reading ≡ answered s p
      → reading.answer ≡ Err refusal
      → reading ≡ answered s (continue p nothing_behind)
  unfolding answered continue
  form-refused (got q rest) e a = absurd (let z : ◌≡◌ {A = ℕ} 0 1 = cc (ap (λ x. x.answer) e) in omega arith)
  form-refused (stop refusal) e a = e

  module _ {used : ℕ} (a : reading.answer ≡ Ok used) where
    pub form-behind : (p : Parsed SheetRead) → reading ≡ answered s p → used < length s
        → empty_beside (Err (Refusal.Form (reading.claim_at + 1))) ≡ answered s (continue p nothing_behind)
    unfolding answered continue nothing_behind
    form-behind (got q []) e h = let z : used ≡ length s - 0 = cc (ap (λ x. x.answer) e) in absurd (omega arith)
    form-behind (got q (b ∷ rest)) e h =
        ap (λ m. empty_beside (Err (Refusal.Form (m + 1)))) (ap (λ x. x.claim_at) e)
    form-behind (stop refusal) e h = absurd (let z : ◌≡◌ {A = ℕ} 0 1 = cc (ap (λ x. x.answer) e) in omega arith)

    pub form-whole : (p : Parsed SheetRead) → reading ≡ answered s p → length s ≤ used
        → ((q : SheetRead) (rest : List ℕ) → p ≡ got q rest → length rest ≤ length s)
        → reading ≡ answered s (continue p nothing_behind)
    unfolding answered continue nothing_behind
    form-whole (got q []) e h fits = e
    form-whole (got q (b ∷ rest)) e h fits =
        let z : used ≡ length s - suc (length rest) = cc (ap (λ x. x.answer) e) in absurd
        (omega (arith, fits q (b ∷ rest) refl))
    form-whole (stop refusal) e h fits = absurd (let z : ◌≡◌ {A = ℕ} 0 1 = cc (ap (λ x. x.answer) e) in omega arith)
