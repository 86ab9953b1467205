-- The first digit, where it is one and not 0, and then the second where there is one.
use Rattle.std.specs.Prelude.{Option, Some}
use mathlib.Core.List.{List}
use mathlib.Core.Path.{◌≡◌, ap, sym, ◌∙◌}
use Prim.Native.Nat.{ℕ, ◌≤◌}
use native.Mathlib.Omega.{arith}
use borrow.Author.Rules.{rules}
use lib.ListN.{length}
use Rattle.sheet.specs.Reader.{read_number}
use Rattle.line_parts.specs.Values.{most_digits, up_to}
use Rattle.line_parts.proofs.Values.{few_bytes, many-bytes, no_bytes, no-first-digit, zero-first}
use Rattle.line_parts.proofs.Values.{digit-small, one-digit, no-second-digit, two_digits}
use Rattle.line_parts.proofs.read_number.Goals as goal

-- What the definition gives, at a word that is not too long.
gives : (word : List ℕ) → length word ≤ most_digits → {o : Option ℕ} → read_number word ≡ o
    → o ≡ up_to most_digits read_number word
gives word few e = sym (few_bytes most_digits read_number word few ∙ e)

pub returns-then-word-gt2 : goal.returns-then-word-gt2
returns-then-word-gt2 c = sym (many-bytes most_digits read_number _ c.if-word-gt2.true)

pub returns-then-is_empty : goal.returns-then-is_empty
returns-then-is_empty c =
    let none : length c.args.word.now ≡ 0 = search rules in
    gives c.args.word.now c.if-word-gt2.false (no_bytes c.args.word.now none)

pub returns-in_err-first : goal.returns-in_err-first
returns-in_err-first c =
    let word = c.args.word.now in
    c.from_residual.ensures
    ∙ gives word c.if-word-gt2.false
    (no-first-digit word (search rules) (sym c.read_digit.ensures ∙ c.in_err-first.was))

pub returns-then-first-eq0 : goal.returns-then-first-eq0
returns-then-first-eq0 c =
    let word = c.args.word.now in
    gives word c.if-word-gt2.false
    (zero-first word (search rules) (sym c.read_digit.ensures ∙ c.in_ok-first.was ∙ ap Some c.if-first-eq0.true))

pub returns-then-word-eq1 : goal.returns-then-word-eq1
returns-then-word-eq1 c =
    let word = c.args.word.now in
    gives word c.if-word-gt2.false
    (one-digit c.in_ok-first.first c.if-first-eq0.false word c.if-word-eq1.true
    (sym c.read_digit.ensures ∙ c.in_ok-first.was))

pub returns-in_err-second : goal.returns-in_err-second
returns-in_err-second c =
    let word = c.args.word.now in
    c.from_residual-in_err-second.ensures
    ∙ gives word c.if-word-gt2.false
    (no-second-digit c.in_ok-first.first c.if-first-eq0.false word (search rules)
    (sym c.read_digit.ensures ∙ c.in_ok-first.was) (sym c.read_digit-2.ensures ∙ c.in_err-second.was))

pub overflow_mul-result : goal.overflow_mul-result
overflow_mul-result c = omega (arith, digit-small _ _ (sym c.read_digit.ensures ∙ c.in_ok-first.was))

pub overflow_add-result : goal.overflow_add-result
overflow_add-result c =
    omega (
      arith,
      digit-small _ _ (sym c.read_digit.ensures ∙ c.in_ok-first.was),
      digit-small _ _ (sym c.read_digit-2.ensures ∙ c.in_ok-second.was),
    )

pub returns : goal.returns
returns c =
    let word = c.args.word.now in
    gives word c.if-word-gt2.false
    (two_digits c.in_ok-first.first c.if-first-eq0.false word c.in_ok-second.second (search rules)
    (sym c.read_digit.ensures ∙ c.in_ok-first.was) (sym c.read_digit-2.ensures ∙ c.in_ok-second.was))
