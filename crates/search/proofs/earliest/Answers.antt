-- One letter or none is looked for without a table, and what is found so is the earliest of all. Where nothing is, the
-- heavier strings are looked for with the table, which tells nothing wrong.
use Rattle.std.specs.Prelude.{Option}
use Rattle.std.specs.Option.{is_some}
use Rattle.std.proofs.Common.{◌≡◌, ℕ, ◌+◌, ◌<◌, ◌≤◌, ◌⊎◌, Bool, true, false, inl, inr, min, sym, ap, ◌∙◌, arith}
use borrow.Author.Count.{below_none, below_more}
use Rattle.letter_sums.specs.declared.FoundMasks.{FoundMasks}
use Rattle.letter_sums.specs.declared.LetterWords.{LetterWords}
use Rattle.letter_sums.specs.Sums.{found_as, earliest_of, earliest_up_to, earliest_by}
use Rattle.letter_sums.proofs.Masks.{unfound, found-again}
use Rattle.letter_sums.proofs.Words.{NoneLighter, up-to-some, up-to-none}
use Rattle.search.proofs.earliest.Goals as goal

module _ (words : LetterWords) (n : ℕ) (few : n ≡ min words.qubits 32) (t want shun : ℕ) where
  on-qubits : found_as (earliest_up_to words.first words.second n t want shun) ≡ earliest_by words t want shun
  unfolding earliest_by
  on-qubits = ap (λ (m : ℕ). found_as (earliest_up_to words.first words.second m t want shun)) few

  -- No string is lighter than w.
  abbrev NoneYet : ℕ → Type 0
  NoneYet w = NoneLighter words.first words.second n want shun w

  -- What is found at the weight w.
  abbrev Found : ℕ → Option FoundMasks → Type 0
  Found w found = found ≡ found_as (earliest_of words.first words.second n w want shun)

  found-so : (w : ℕ) (found : Option FoundMasks) → w ≤ t → NoneYet w → Found w found → is_some found ≡ true
      → found ≡ earliest_by words t want shun
  found-so w found room each e there =
      found-again found _ _ e there
      (λ s here. up-to-some words.first words.second n t want shun w s room each here)
      ∙ on-qubits

  none-more : (w : ℕ) (found : Option FoundMasks) → NoneYet w → Found w found → is_some found ≡ false
      → NoneYet (w + 1)
  none-more w found each e none = below_more _ w each (unfound found _ e none)

  -- None is found, and no more letters are allowed.
  none_so : (w : ℕ) (found : Option FoundMasks) → t < w + 1 → NoneYet w → Found w found → is_some found ≡ false
      → found ≡ earliest_by words t want shun
  none_so w found end each e none =
      e
      ∙ ap found_as (unfound found _ e none
      ∙ sym (up-to-none words.first words.second n t want shun (w + 1) end (none-more w found each e none)))
      ∙ on-qubits

  settled : (w : ℕ) (found : Option FoundMasks) (there : Bool) → w ≤ t → NoneYet w → Found w found
      → there ≡ is_some found → (there ≡ true) ⊎ ((there ≡ false) × (t < w + 1)) → found ≡ earliest_by words t want shun
  settled w found there room each e known (inl h) = found-so w found room each e (sym known ∙ h)
  settled w found there room each e known (inr h) = none_so w found h.1 each e (sym known ∙ h.0)

pub returns-then-is_some : goal.returns-then-is_some
returns-then-is_some c =
    let a = c.args in
    let words = a.words.now in
    settled words c.min-n.result c.min-n.ensures a.t a.want a.shun 0 _ _ (omega arith) (below_none _)
    (c.identity-none.ensures words.first words.second c.min-n.result) c.is_some.ensures c.then-is_some.either

pub returns-then-is_some-2 : goal.returns-then-is_some-2
returns-then-is_some-2 c =
    let a = c.args in
    let words = a.words.now in
    let n = c.min-n.result in
    settled words n c.min-n.ensures a.t a.want a.shun 1 _ _ (omega arith)
    (none-more words n c.min-n.ensures a.t a.want a.shun 0 _ (below_none _)
    (c.identity-none.ensures words.first words.second n) (sym c.is_some.ensures ∙ c.if-is_some.false))
    c.lone-light.ensures c.is_some-2.ensures c.then-is_some-2.either

pub heavier-requires-clause-by_index : goal.heavier-requires-clause-by_index
heavier-requires-clause-by_index c =
    let a = c.args in
    let words = a.words.now in
    let n = c.min-n.result in
    none-more words n c.min-n.ensures a.t a.want a.shun 1 _
    (none-more words n c.min-n.ensures a.t a.want a.shun 0 _ (below_none _)
    (c.identity-none.ensures words.first words.second n) (sym c.is_some.ensures ∙ c.if-is_some.false))
    c.lone-light.ensures (sym c.is_some-2.ensures ∙ c.if-is_some-2.false)

pub returns : goal.returns
returns c =
    c.heavier.ensures ∙ on-qubits c.args.words.now c.min-n.result c.min-n.ensures c.args.t c.args.want c.args.shun
