-- The refusals of a record's checks are brief, as text: they name lines of the sheet, which has few, and the errors
-- of 14 have a letter for each qubit.
use Rattle.std.specs.Prelude.{Some, None}
use Rattle.std.proofs.lemmas.Option.{none-some, same_Some}
use mathlib.Core.List.{List}
use mathlib.Core.Path.{◌≡◌, refl, ap, sym, ◌∙◌}
use Prim.Native.Nat.{ℕ, ◌≤◌}
use native.Mathlib.Omega.{arith}
use lib.Dec.{lit≤}
use lib.ListN.{length, length-append}
use Rattle.letters.specs.declared.Letter.{Letter}
use Rattle.letters.specs.Lists.{bytes}
use Rattle.code_record.specs.declared.Code.{Code}
use Rattle.refusals.specs.declared.ErrorPair.{ErrorPair}
use Rattle.refusals.specs.declared.Refusal.{Refusal}
use Rattle.code_record.specs.Record.{most_qubits, generators_at, pair_count, logical_count, logicals_at, claim_at}
use Rattle.code_record.specs.Record.{Sized}
use Rattle.refusals.specs.Refusals.{values}
use Rattle.code_record.proofs.Limits.{Limits}
use Rattle.sheet.proofs.Lengths.{length-line, length-letter_text, length-generators, length-logical_xs}
use Rattle.sheet.proofs.Lengths.{length-logical_zs}
use Rattle.sheet.proofs.Numbers.{IfRefused}
use Rattle.admission.specs.Admission.{code_fault}
use Rattle.admission.specs.Distance.{refuting_pair}
use Rattle.admission.specs.Logicals.{logicals}
use Rattle.admission.proofs.Refusals.{generators_end, logicals_end, OfChecks, law-of-fault, checks-refuse}
use Rattle.reporting.specs.Report.{errors_text}

-- No line has a higher number: a sheet has 50 lines at most, and each line behind it has a byte of the 4,096.
abbrev pub last_line : ℕ
last_line = 5000

-- The errors are on 2 to 24 qubits, in two lines with a key and a line feed each.
pub record Brief (refusal : Refusal) : Type 0 where
  pub number : (values refusal).number ≤ 17
  pub line : (values refusal).line ≤ last_line
  pub errors : length (errors_text (values refusal).errors) ≤ 54
  pub qubits : (pair : ErrorPair) → (values refusal).errors ≡ Some pair → (2 ≤ pair.n) × (pair.n ≤ most_qubits)

pub brief : (refusal : Refusal) → (values refusal).number ≤ 17 → (values refusal).line ≤ last_line
    → (values refusal).errors ≡ None → Brief refusal
unfolding errors_text
brief refusal number line none-carried = record {
  number = number;
  line = line;
  errors = rw none-carried (lit≤ tt);
  qubits = λ pair carried. absurd (none-some pair (sym none-carried ∙ carried));
}

-- ---- the checks

module _ (c : Code) (sized : Sized c) (within : Limits c) where
  generators-end : generators_end c ≤ last_line
  unfolding generators_at
  generators-end = omega (arith, length-generators c sized within)

  logicals-end : logicals_end c ≤ last_line
  unfolding generators_at logicals_at logicals pair_count logical_count
  logicals-end =
      rw length-append (omega (arith, length-logical_xs c sized within, length-logical_zs c sized within))

  pub claim-few : claim_at c ≤ 50
  unfolding generators_at logicals_at claim_at pair_count logical_count
  claim-few = omega arith

  module _ (at : ℕ) (few : at ≤ last_line) where
    pair-brief : (s : List Letter) → Brief (Refusal.DistanceRefuted at (refuting_pair c.n s))
    unfolding errors_text refuting_pair bytes
    pair-brief s = record {
      number = lit≤ tt;
      line = few;
      errors = simp (length-append, length-line, length-letter_text) (omega arith);
      qubits = λ pair carried.
          let n = ap (λ (p : ErrorPair). p.n) (same_Some _ pair carried) in omega (arith, within.qubits);
    }

    checks-brief : (refusal : Refusal) → OfChecks at c refusal → Brief refusal
    checks-brief refusal (OfChecks.six h) = brief refusal (lit≤ tt) (omega (arith, generators-end)) refl
    checks-brief refusal (OfChecks.seven h) = brief refusal (lit≤ tt) (omega (arith, generators-end)) refl
    checks-brief refusal (OfChecks.eight h) = brief refusal (lit≤ tt) (omega (arith, generators-end)) refl
    checks-brief refusal (OfChecks.nine h) = brief refusal (lit≤ tt) (omega (arith, logicals-end)) refl
    checks-brief refusal (OfChecks.ten h) = brief refusal (lit≤ tt) (omega (arith, logicals-end)) refl
    checks-brief refusal OfChecks.eleven = brief refusal (lit≤ tt) few refl
    checks-brief refusal OfChecks.twelve = brief refusal (lit≤ tt) few refl
    checks-brief refusal OfChecks.thirteen = brief refusal (lit≤ tt) few refl
    checks-brief refusal (OfChecks.fourteen s) = pair-brief s

    pub code-brief : IfRefused Brief (code_fault at c)
    code-brief = law-of-fault checks-brief (checks-refuse at c)
