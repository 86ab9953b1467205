-- The line is of another kind; or r is above the room for generators; or no line feed is behind the characters; or they
-- are read.
use Rattle.std.proofs.Common.{◌≡◌, ◌+◌, true, sym, ◌∙◌, arith}
use borrow.Author.Rules.{rules}
use denote.Enum.Bare.{differs_true, differs_false}
use lib.Dec.{eqb}
use lib.ListN.{get_or}
use Rattle.sheet.specs.Text.{line_feed}
use Rattle.line_kinds.specs.contracts.LineKind.{the_type}
use Rattle.line_parts.proofs.LineValues.{feed-within}
use Rattle.decoder.specs.Syndrome.{read_syndrome}
use Rattle.syndrome_lines.proofs.Lines.{mask-other, mask-many, mask-no-feed, mask-read}
use Rattle.syndrome_lines.proofs.read_syndrome_line.Goals as goal

pub returns-then-ne : goal.returns-then-ne
returns-then-ne c =
    sym (mask-other _ _ (λ e. differs_true the_type _ _ (sym c.if-ne.ensures) (c.line_kind.ensures ∙ e)))

pub returns-then-r-gt-ROW_ROOM : goal.returns-then-r-gt-ROW_ROOM
returns-then-r-gt-ROW_ROOM c = sym (mask-many _ _ c.if-r-gt-ROW_ROOM.true)

pub returns-then-not-line_feed_at : goal.returns-then-not-line_feed_at
returns-then-not-line_feed_at c =
    sym (mask-no-feed _ _ (sym c.line_feed_at.ensures ∙ c.if-not-line_feed_at.true))

pub slice_bounds-read_syndrome-end : goal.slice_bounds-read_syndrome-end
slice_bounds-read_syndrome-end c =
    let r = c.args.r in
    let s = c.args.s.now in
    let ended : eqb (get_or s (r + 2) 0) line_feed ≡ true =
    sym c.line_feed_at.ensures ∙ c.if-not-line_feed_at.false in
    omega (arith, feed-within 2 r (read_syndrome r) s ended)

pub returns : goal.returns
returns c =
    let key = sym c.line_kind.ensures ∙ differs_false the_type (search rules) _ _ (sym c.if-ne.ensures) in
    let ended = sym c.line_feed_at.ensures ∙ c.if-not-line_feed_at.false in
    c.read_syndrome.ensures ∙ sym (mask-read c.args.r c.args.s.now key ended)
