-- Whether all rows are +I: each of them is asked.
use Rattle.std.proofs.Common.{◌∙◌, sym, rules}
use Rattle.std.proofs.lemmas.Iterator.{YieldsList-from_slice}
use Rattle.std.proofs.lemmas.Iterator.Search.{all_from_yields_List}
use Rattle.pauli.specs.Product.{identity, same_pauli}
use Rattle.code_record.proofs.Limits.{all_listed}
use Rattle.unused_rows.proofs.are_identities.Goals as goal

pub returns : goal.returns
returns c =
    let rows = c.args.rows in
    all_from_yields_List (same_pauli identity) _ _ _ c.all.ensures.ran (YieldsList-from_slice rows cc)
    (λ x b q k. search rules)
    ∙ sym (all_listed (same_pauli identity) rows)
