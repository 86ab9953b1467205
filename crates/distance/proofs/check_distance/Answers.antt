-- The search is by the words of the code's letters, and what it finds gives the two errors.
use Rattle.std.specs.Prelude.{Some, None}
use Rattle.std.proofs.Common.{ap, ◌∙◌}
use Rattle.refusals.specs.declared.Refusal.{Refusal}
use Rattle.distance.proofs.Refuted.{refuted-by}
use Rattle.distance.proofs.check_distance.Goals as goal

pub returns-in-Some : goal.returns-in-Some
returns-in-Some c =
    let a = c.args in
    ap (λ pair. Some (Refusal.DistanceRefuted a.at pair)) c.refuting_pair.ensures
    ∙ refuted-by a.at a.code a.reduced _ _ (Some c.in-Some.masks) c.logical_words-words.ensures
    c.saturating_sub.ensures c.in-Some.ensures

pub returns-in-None : goal.returns-in-None
returns-in-None c =
    let a = c.args in
    refuted-by a.at a.code a.reduced _ _ None c.logical_words-words.ensures c.saturating_sub.ensures
    c.in-None.ensures
