-- The sheet's length is the sum of its lines', and no sum on the way is above that of the longest sheet.
use Rattle.std.proofs.Common.{◌≡◌, ℕ, ◌+◌, ◌*◌, ◌≤◌, length, ap, sym, ◌∙◌, arith}
use mathlib.Core.Path.{ap₂}
use Rattle.code_record.specs.declared.Code.{Code}
use Rattle.code_record.specs.Record.{most_qubits, pair_count, Sized}
use Rattle.code_record.proofs.ArrayLengths.{sized_of}
use Rattle.code_record.proofs.Limits.{limits}
use Rattle.sheet.specs.Statements.{longest_sheet}
use Rattle.sheet.specs.Writer.{sheet_text}
use Rattle.sheet.proofs.Lengths.{sheet_text-le}
use Rattle.writer.proofs.Sheet.{sheet-length}
use Rattle.writer.proofs.sheet_length.Goals as goal

few : (c : goal.After-pair_count) → c.args.code.r + 2 * c.pair_count.result ≤ 3 * most_qubits
unfolding pair_count
few c = omega (arith, limits c.args.code c.requires)

pub overflow_mul-rows : goal.overflow_mul-rows
overflow_mul-rows c = record { fits = omega (arith, few c) }

pub overflow_add-rows : goal.overflow_add-rows
overflow_add-rows c = record { fits = omega (arith, few c) }

module _ (c : goal.After-digit_count-2) where
  abbrev code : Code
  code = c.args.code

  sized : Sized code
  sized = sized_of code c.well_formed.0

  abbrev sum : ℕ
  sum = c.digit_count.result + c.digit_count-2.result + 6 + (code.r + 2 * c.pair_count.result) * (code.n + 4)
      + (code.n + 3)

  sum-is : sum ≡ length (sheet_text code)
  sum-is =
      ap (λ (k : ℕ). c.digit_count.result + c.digit_count-2.result + 6 + (code.r + 2 * k) * (code.n + 4)
      + (code.n + 3)) c.pair_count.ensures
      ∙ ap₂ (λ (n d : ℕ). n + d + 6 + (code.r + 2 * pair_count code.n code.r) * (code.n + 4) + (code.n + 3))
      c.digit_count.ensures c.digit_count-2.ensures ∙ sym (sheet-length code sized c.requires)

  sum-small : sum ≤ longest_sheet
  sum-small = omega (arith, sum-is, sheet_text-le code sized c.requires)

pub overflow_add-result : goal.overflow_add-result
overflow_add-result c = record { fits = omega (arith, sum-small c) }

pub overflow_add-result-2 : goal.overflow_add-result-2
overflow_add-result-2 c = record { fits = omega (arith, sum-small c) }

pub overflow_add-result-3 : goal.overflow_add-result-3
overflow_add-result-3 c = record { fits = omega (arith, sum-small c) }

pub overflow_mul-result : goal.overflow_mul-result
overflow_mul-result c = record { fits = omega (arith, sum-small c) }

pub overflow_add-result-4 : goal.overflow_add-result-4
overflow_add-result-4 c = record { fits = omega (arith, sum-small c) }

pub overflow_add-result-5 : goal.overflow_add-result-5
overflow_add-result-5 c = record { fits = omega (arith, sum-small c) }

pub overflow_add-result-6 : goal.overflow_add-result-6
overflow_add-result-6 c = record { fits = omega (arith, sum-small c) }

pub returns : goal.returns
returns c = sum-is c
