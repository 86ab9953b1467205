-- The lengths of the two parts, summed up.
use mathlib.Core.Path.{◌≡◌, ap₂, sym, ◌∙◌}
use Prim.Native.Nat.{ℕ, ◌+◌, ◌*◌, ◌^◌, ◌≤◌}
use native.Mathlib.Nat.{mul-le-mul}
use native.Mathlib.Omega.{arith}
use lib.ListN.{length}
use Rattle.code_record.specs.declared.Code.{Code}
use Rattle.code_record.specs.Record.{pair_count, logical_count, radius}
use Rattle.header_writer.specs.Header.{header_text}
use Rattle.header_writer.proofs.Header.{length-header_text}
use Rattle.number_writer.proofs.Numbers.{length-decimal-le}
use Rattle.reduced_rows.specs.declared.ReducedRows.{ReducedRows}
use Rattle.reduced_rows.proofs.ArrayLength.{room_of}
use Rattle.account_writer.proofs.Account.{header, length-code_by}
use borrow.Author.Rules.{rules}
use Rattle.account_writer.proofs.code_length.Statement.{statement}
use Rattle.account_writer.proofs.code_length.Tie as tie

module _ (c : tie.After-rows_there) where
  abbrev start : tie.Start
  start = c.before.before.before.before

  abbrev code : Code
  code = start.args.code

  abbrev reduced : ReducedRows
  reduced = start.args.reduced

  header_is : c.header_length.result ≡ length (header code reduced)
  unfolding logical_count
  header_is =
      c.header_length.ensures
      ∙ ap₂ (λ (k t : ℕ). length (header_text code.n k code.d t)) c.pair_count-k.ensures
      c.radius.ensures

  rows_few : c.rows_there.result * (code.n + 4) ≤ 32 * 28
  rows_few = mul-le-mul {n₂ = 32} {m₂ = 28} (omega (arith, c.rows_there.ensures)) (omega (arith, start.requires))

  -- Four numbers have few digits.
  header-few : length (header code reduced) ≤ 2 ^ 63
  unfolding logical_count pair_count radius
  header-few =
      omega (
        arith,
        length-header_text code.n (logical_count code) code.d (radius code),
        length-decimal-le code.n,
        length-decimal-le (logical_count code),
        length-decimal-le code.d,
        length-decimal-le (radius code),
        start.requires,
        start.well_formed,
      )

mul-result : tie.Need-overflow_mul-result
mul-result c = record { fits = omega (arith, rows_few c.before) }

add-result-2 : tie.Need-overflow_add-result-2
add-result-2 c =
    record { fits = omega (arith, rows_few c.before, header-few c.before, header_is c.before) }

returns : tie.Need-returns
returns c =
    let at = c.before in
    ap₂ (λ (first rows : ℕ). first + rows * ((code at).n + 4)) (header_is at) at.rows_there.ensures
    ∙ sym (length-code_by (code at) (reduced at) (room_of (reduced at) (start at).well_formed.1.0))

pub code_length_spec : {M : Type 1} → statement M
code_length_spec =
    tie.close
    (tie.spec (λ c κs. search rules) (λ c κs. search rules) (λ c κs. search rules) (λ c κs. search rules)
    (λ c. search rules) mul-result add-result-2 returns)
