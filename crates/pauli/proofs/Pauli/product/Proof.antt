-- The product as a machine computes it.
use borrow.Author.Rules.{rules}
use Rattle.pauli.proofs.Product.{product-computed}
use Rattle.pauli.proofs.Pauli.product.Statement.{statement}
use Rattle.pauli.proofs.Pauli.product.Tie as tie

returns : tie.Need-returns
returns c =
    let at = c.before.before.before.before.before.before.before.before in
    product-computed at.args.self at.args.q

pub product_spec : {M : Type 1} → statement M
product_spec =
    tie.close (tie.spec (λ c. search rules) (λ c. search rules) (λ c. search rules) returns)
