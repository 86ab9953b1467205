-- What an answer has beside it, whatever checks it is of: the rows that were found where it passes, and none where it
-- is a refusal.
use Rattle.std.specs.Prelude.{Option, Some, None, Result, Ok, Err}
use Rattle.std.specs.Result.{result_err}
use mathlib.Core.List.{List, []}
use mathlib.Core.Path.{◌≡◌, refl, ap, ap₂, sym, ◌∙◌}
use Prim.Native.Nat.{ℕ}
use Rattle.pauli.specs.declared.Pauli.{Pauli}
use Rattle.refusals.specs.declared.Refusal.{Refusal}
use Rattle.reduced_rows.specs.declared.ReducedRows.{ReducedRows}
use Rattle.reduced_rows.specs.Rows.{reduced_of}
use Rattle.elimination.specs.declared.Elimination.{Elimination}
use Rattle.elimination.specs.Answers.{eliminated}

pub eliminated-refusal : (fault : Option Refusal) (n : ℕ) (hs : List Pauli)
    → result_err (eliminated fault n hs).answer ≡ fault
unfolding eliminated
eliminated-refusal None n hs = refl
eliminated-refusal (Some refusal) n hs = refl

module _ (fault : Option Refusal) (n : ℕ) (hs : List Pauli) where
  module _ {e : Elimination} (known : e ≡ eliminated fault n hs) where
    pub fault-answered : {checked : Result Unit Refusal} → e.answer ≡ checked → result_err checked ≡ fault
    fault-answered told =
        ap result_err (sym told) ∙ ap (λ r. result_err r.answer) known
        ∙ eliminated-refusal fault n hs

    pub rows-answered : e.answer ≡ Ok tt → e.reduced ≡ reduced_of n hs
    unfolding eliminated
    rows-answered told =
        ap (λ r. r.reduced) known ∙ ap (λ fault. (eliminated fault n hs).reduced) (sym (fault-answered told))

  pub refusal-answered : {checked : Result Unit Refusal} {rows : ReducedRows} {refusal : Refusal}
      → checked ≡ Err refusal → rows ≡ reduced_of 0 [] → result_err checked ≡ fault
      → record { answer = checked; reduced = rows } ≡ eliminated fault n hs
  unfolding eliminated
  refusal-answered told bare known =
      ap₂ (λ answer rows. record { answer = answer; reduced = rows }) told bare
      ∙ ap (λ fault. eliminated fault n hs) (ap result_err (sym told) ∙ known)

  pub passed-answered : {checked : Result Unit Refusal} {rows : ReducedRows} → checked ≡ Ok tt → rows ≡ reduced_of n hs
      → result_err checked ≡ fault → record { answer = checked; reduced = rows } ≡ eliminated fault n hs
  unfolding eliminated
  passed-answered told found known =
      ap₂ (λ answer rows. record { answer = answer; reduced = rows }) told found
      ∙ ap (λ fault. eliminated fault n hs) (ap result_err (sym told) ∙ known)
