-- The number of letters tells the case. With one letter the place that stands at the word's slot is compared, or 0
-- where the table has no such slot.
use Rattle.std.proofs.Common.{ℕ, ap, sym, rules, arith}
use Rattle.word_filter.specs.Filter.{may_end}
use Rattle.word_filter.proofs.Tables.{one-may-end, many-may-end}
use Rattle.word_filter.proofs.may_end.Goals as goal

pub returns-in-0 : goal.returns-in-0
unfolding may_end
returns-in-0 c =
    let a = c.args in
    ap (λ (letters : ℕ). may_end a.places.now letters a.end a.want) (sym c.in-0.is)

pub returns-in-1 : goal.returns-in-1
returns-in-1 c =
    let a = c.args in
    one-may-end a.places.now a.letters a.end a.want c.slot.result c.unwrap_or.result c.in-1.is c.slot.ensures
    (search rules)

pub returns-in-2-to-max : goal.returns-in-2-to-max
returns-in-2-to-max c =
    let a = c.args in
    many-may-end a.places.now a.letters a.end a.want (λ none. omega arith) (λ one. omega arith)
