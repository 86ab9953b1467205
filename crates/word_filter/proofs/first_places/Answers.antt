-- Before the first store no slot has a place, and each store is one word more.
use Rattle.std.proofs.Common.{◌≡◌, ◌-◌, ℕ, List, take, drop, length-take, get_or, set, sym, ap, ap₂, ◌∙◌, arith}
use lib.Seq.{get_or-take}
use Rattle.word_filter.specs.Filter.{slot_of, no_places, first_places, places_from}
use Rattle.word_filter.proofs.Tables.{none-stored, one-stored}
use Rattle.word_filter.proofs.first_places.Goals as goal

pub loop-place-init : goal.loop-place-init
unfolding no_places
loop-place-init c =
    let words = c.args.words.now in
    none-stored _ (take 96 words) (omega (arith, c.min-place.ensures, length-take 96 words))

pub loop-place-preserved : goal.loop-place-preserved
loop-place-preserved c =
    let words = c.args.words.now in
    let place = c.loop-place.place in
    let counted = length-take 96 words in
    let own : c.slot.result ≡ slot_of (get_or (take 96 words) (place - 1) 0) =
    c.slot.ensures ∙ ap slot_of (sym (get_or-take 96 words (place - 1) 0 (omega (arith, counted)))) in
    ap₂ (λ (places : List ℕ) (slot : ℕ). set places slot (place - 1)) c.loop-place.invariant own
    ∙ one-stored place (take 96 words) (omega arith) (omega (arith, counted))

pub returns : goal.returns
unfolding first_places
returns c =
    c.loop-place.invariant
    ∙ ap (λ (place : ℕ). places_from place (drop place (take 96 c.args.words.now))) (omega arith)
