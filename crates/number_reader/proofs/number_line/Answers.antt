-- The line has no number; or the number is out of range; or it is read.
use Rattle.std.specs.Prelude.{Option, None, Err}
use Rattle.std.proofs.lemmas.Bool.Decides.{nat_tests}
use mathlib.Core.Bool.{true, false}
use mathlib.Core.List.{List}
use mathlib.Core.Path.{◌≡◌, sym, ◌∙◌}
use Prim.Native.Nat.{ℕ, ◌≤◌}
use native.Mathlib.Omega.{arith}
use borrow.Author.Rules.{rules}
use Rattle.refusals.specs.declared.Refusal.{Refusal}
use Rattle.code_record.specs.Record.{between}
use Rattle.sheet.specs.Reader.{read_number}
use Rattle.line_parts.specs.Values.{most_digits, up_to}
use Rattle.sheet.proofs.Reading.{then-stop}
use Rattle.line_parts.specs.LineValues.{value_from}
use Rattle.line_parts.proofs.LineValues.{value-few, value-within, line-no-value, line-value}
use Rattle.number_reader.proofs.NumberLines.{number_read, number-refused, range-refused, range-kept}
use Rattle.number_reader.proofs.number_line.Goals as goal

value-is : (digits : ℕ) (s : List ℕ) {r : Option ℕ}
    → r ≡ value_from 2 digits (up_to most_digits read_number) s → digits ≤ most_digits
    → value_from 2 digits read_number s ≡ r
value-is digits s e few = sym (e ∙ value-few most_digits 2 digits read_number s few)

pub returns-in_err-number : goal.returns-in_err-number
returns-in_err-number c =
    let s = c.args.s.now in
    let answer : c.from_residual.result ≡ Err (Refusal.Form c.args.at) = search rules in
    let none : c.line_number.result ≡ None = search rules in
    answer
    ∙ number-refused s
    (then-stop _
    (line-no-value _ _ _ _ (value-is c.args.digits s c.line_number.ensures c.requires ∙ none)))

pub returns-then-not-contains : goal.returns-then-not-contains
unfolding between
returns-then-not-contains c =
    let s = c.args.s.now in
    let number = c.in_ok-number.number in
    let outside : between c.args.low c.args.high number ≡ false = grind (arith, nat_tests) in
    let value = value-is c.args.digits s c.line_number.ensures c.requires ∙ c.in_ok-number.ensures.ok_part in
    number-refused s (range-refused _ _ _ (line-value _ _ _ _ value) outside)

pub returns : goal.returns
unfolding between
returns c =
    let digits = c.args.digits in
    let s = c.args.s.now in
    let number = c.in_ok-number.number in
    let within : between c.args.low c.args.high number ≡ true = grind (arith, nat_tests) in
    let value = value-is digits s c.line_number.ensures c.requires ∙ c.in_ok-number.ensures.ok_part in
    let line = line-value digits read_number _ s value in
    number_read s _ (omega (arith, value-within 2 digits read_number s value)) _ (range-kept _ _ _ line within ∙ line)
