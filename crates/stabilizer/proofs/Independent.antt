-- Independent rows: rows of a stabilizer group of which none reduces to I by those before it. They are built up row by
-- row: a new row that does not reduce to I is no member, phase aside, so no product that has it is -I. Their canonical
-- generators are as many as they are; of any rows they are no more.
use mathlib.Core.Bool.{Bool, true, false, false≢true}
use mathlib.Core.List.{List, [], ◌∷◌, ◌++◌}
use mathlib.Core.Logic.{◌⊎◌, inl, inr, ⊎_elim}
use mathlib.Core.Path.{◌≡◌, refl, ap, sym, ◌∙◌}
use Prim.Native.Nat.{ℕ, suc, ◌≤◌}
use native.Mathlib.Omega.{arith}
use lib.ListN.{length, length-append}
use Rattle.pauli.specs.declared.Pauli.{Pauli}
use Rattle.pauli.specs.Product.{identity, product, modulo4, same_masks}
use Rattle.pauli.proofs.Product.{product-assoc}
use Rattle.code_record.specs.Record.{is_row}
use Rattle.stabilizer.specs.Canonical.{reduced, reduces_to_identity, added, canonical_generators}
use Rattle.stabilizer.specs.Checks.{minus_identity}
use Rattle.stabilizer.specs.Group.{product_of}
use Rattle.stabilizer.proofs.All.{All, all_append, from_last}
use Rattle.stabilizer.proofs.Echelon.{modulo4-masks, added-length}
use Rattle.stabilizer.proofs.Generated.{View, whole, phase_aside, masks_of, none-taken, brought-r, Commute}
use Rattle.stabilizer.proofs.Generated.{Generated}
use Rattle.stabilizer.proofs.Generated.{generated-identity, generated-as, generated-skip, generated-take}
use Rattle.stabilizer.proofs.Members.{commute_aside, square-aside}
use Rattle.stabilizer.proofs.Reduction.{canonical-more, canonical-decides}
use Rattle.stabilizer.proofs.Tests.{by-test}
use Rattle.stabilizer.proofs.StabilizerRows.{Stabilizer, masks-of-whole, commuting-more, minus-is-not-plus}
use Rattle.stabilizer.proofs.StabilizerRows.{qubits-rows}
pub use Rattle.stabilizer.proofs.StabilizerRows.{Rows, row-parts}

-- ---- one row more

-- What is generated with one row more is generated without it, or is so times that row.
abbrev OneMore : View → List Pauli → Pauli → Pauli → Type 0
OneMore v rows P R = Generated v rows R ⊎ ((S : Pauli) × Generated v rows S × (v.of R ≡ v.of (product S P)))

one_more : (v : View) (P : Pauli) (selection : List Bool) (rows : List Pauli)
    → OneMore v rows P (product_of selection (rows ++ P ∷ []))
unfolding product_of
one_more v P [] rows = inl (generated-identity v rows)
one_more v P (false ∷ selection) [] = inl (selection, refl)
one_more v P (true ∷ selection) [] =
    inr (
      identity,
      generated-identity v [],
      ap (λ Q. v.of (product P Q)) (none-taken selection) ∙ v.identity-r P
          ∙ sym (v.identity-l P),
    )
one_more v P (b ∷ selection) (g ∷ rows) = step b (one_more v P selection rows)
  where
    Q : Pauli
    Q = product_of selection (rows ++ P ∷ [])

    step : (b : Bool) → OneMore v rows P Q → OneMore v (g ∷ rows) P (product_of (b ∷ selection) (g ∷ rows ++ P ∷ []))
    step true (inl x) = inl (generated-take v g rows Q x)
    step true (inr (S, x, e)) =
        inr (
          product g S,
          generated-take v g rows S x,
          v.product-as g g Q (product S P) refl e
              ∙ sym (ap v.of (product-assoc g S P)),
        )
    step false (inl x) = inl (generated-skip v g rows Q x)
    step false (inr (S, x, e)) = inr (S, generated-skip v g rows S x, e)

-- A Pauli whose product with a member is I, phase aside, is a member, phase aside.
generated-aside : (rows : List Pauli) (P S : Pauli) → Generated whole rows S
    → masks_of (product S P) ≡ masks_of identity
    → Generated phase_aside rows P
generated-aside rows P S (selection, e) one =
    let same = brought-r phase_aside P S identity (square-aside S) (commute_aside P S ∙ one) in
    (selection, masks-of-whole (product_of selection rows) S e ∙ sym (same ∙ phase_aside.identity-l S))

module _ (n : ℕ) where
  -- ---- no more than the rows

  added-length-le : (hs : List Pauli) (P : Pauli) → length (added n hs P) ≤ suc (length hs)
  unfolding added
  added-length-le hs P =
      by-test (λ _. length (added n hs P) ≤ suc (length hs)) (same_masks (reduced n hs P) identity)
      (λ one. rw (modulo4-masks, one) (omega arith)) (λ new. omega (arith, added-length n hs P new))

  pub canonical-length-le : (rows : List Pauli) → length (canonical_generators n rows) ≤ length rows
  unfolding canonical_generators
  canonical-length-le =
      from_last (λ rows. length (canonical_generators n rows) ≤ length rows) (omega arith)
      (λ rows P few. rw (canonical-more, length-append) (omega
      (arith, added-length-le (canonical_generators n rows) P)))

  -- ---- independent rows

  pub record Independent (rows : List Pauli) : Type 0 where
    pub stabilizer : Stabilizer n rows
    pub count : length (canonical_generators n rows) ≡ length rows

  pub independent-none : Independent []
  unfolding canonical_generators
  independent-none = record {
    stabilizer = record {
      are_rows = tt;
      commuting = tt;
      no_minus = λ g. minus-is-not-plus (sym g.1 ∙ ap modulo4 (none-taken g.0));
    };
    count = refl;
  }

  pub independent-more : (rows : List Pauli) (P : Pauli) → Independent rows → is_row n P ≡ true
      → All (Commute whole P) rows
      → reduces_to_identity n (canonical_generators n rows) P ≡ false → Independent (rows ++ P ∷ [])
  unfolding reduces_to_identity masks_of minus_identity
  independent-more rows P i row c new =
      record {
        stabilizer = record {
          are_rows = (all_append (λ P. is_row n P ≡ true) rows (P ∷ [])).1 (s.are_rows, (row, tt));
          commuting = commuting-more whole rows P s.commuting c;
          no_minus = no_minus;
        };
        count = rw canonical-more (added-length n (canonical_generators n rows) P new ∙ rw length-append (omega arith));
      }
    where
      s : Stabilizer n rows
      s = i.stabilizer

      member : Generated phase_aside rows P → ⊥
      member g = false≢true (sym new ∙ (canonical-decides n rows (qubits-rows n rows s.are_rows) P).1 g)

      no_minus : Generated whole (rows ++ P ∷ []) minus_identity → ⊥
      no_minus (selection, e) =
          ⊎_elim (λ g. s.no_minus (generated-as whole rows (product_of selection (rows ++ P ∷ [])) minus_identity e g))
          (λ (S, g, f). member (generated-aside rows P S g (masks-of-whole (product S P) minus_identity (sym f ∙ e))))
          (one_more whole P selection rows)
