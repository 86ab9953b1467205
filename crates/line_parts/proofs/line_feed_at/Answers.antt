-- The byte at the place decides; behind the last byte there is no line feed.
use mathlib.Core.Path.{refl, ap, sym, ◌∙◌}
use borrow.Author.Tests.{le-ltb}
use lib.Dec.{eqb}
use lib.ListN.{length, get_or-eq_default}
use Rattle.sheet.specs.Text.{line_feed}
use Rattle.line_parts.proofs.line_feed_at.Goals as goal

pub returns-then-place-s : goal.returns-then-place-s
unfolding line_feed
returns-then-place-s c = refl

pub returns-else-place-s : goal.returns-else-place-s
unfolding line_feed
returns-else-place-s c =
    let s = c.args.s.now in
    le-ltb c.args.place (length s) c.if-place-s.false
    ∙ ap (λ x. eqb x 10) (sym (get_or-eq_default s 0 c.if-place-s.false))
