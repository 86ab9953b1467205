-- Rows that commute and of which no product is -I, dependent or not: their canonical generators generate the same
-- signed group. Built up row by row: a row of which I is left adds nothing, since -I cannot be left of it; any other is
-- added.
use mathlib.Core.Bool.{true}
use mathlib.Core.List.{List, [], ◌∷◌, ◌++◌}
use mathlib.Core.Logic.Iff
use mathlib.Core.Logic.{◌↔◌, ◌⊎◌, inl, inr, ⊎_elim}
use mathlib.Core.Path.{◌≡◌, refl, ap, sym, ◌∙◌}
use Prim.Native.Nat.{ℕ, ◌^◌}
use native.Mathlib.Nat.{mod-mod}
use native.Mathlib.Omega.{arith}
use borrow.Author.Tests.{lt-ltb}
use lib.Pow.{pow_pos}
use Rattle.pauli.specs.declared.Pauli.{Pauli}
use Rattle.letters.specs.declared.Sign.{Sign}
use Rattle.letters.specs.declared.Sign.TheVariants.{Plus, Minus}
use Rattle.pauli.specs.Letters.{signed_row, letters_of, has_sign, is_signed_row, sign_of}
use Rattle.pauli.specs.Definitions.{definitions}
use Rattle.pauli.specs.Product.{identity, product, modulo4, has_phase, same_masks}
use Rattle.pauli.proofs.Rows.{row-returns, rows-product}
use Rattle.code_record.specs.Record.{on_qubits, is_row}
use Rattle.code_record.proofs.Limits.{both}
use Rattle.stabilizer.specs.Canonical.{reduced, added, canonical_generators}
use Rattle.stabilizer.specs.Checks.{minus_identity}
use Rattle.stabilizer.proofs.All.{All, all_map, all-zip, all_append, from_last}
use Rattle.stabilizer.proofs.Columns.{product-on-qubits}
use Rattle.stabilizer.proofs.Echelon.{OnQubits, modulo4-masks}
use Rattle.stabilizer.proofs.Generated.{View, whole, masks_of, Commute, Commuting, Squares, Closed, Generated}
use Rattle.stabilizer.proofs.Generated.{generated-identity, generated-as, generates-rows, generated-least}
use Rattle.stabilizer.proofs.Generated.{generated-commute, generated-product, generated-within}
use Rattle.stabilizer.proofs.Members.{commute-whole, same-masks, square-row}
use Rattle.stabilizer.proofs.Reduction.{stands-before, reduces, added-same, added-nothing, canonical-more}
use Rattle.stabilizer.proofs.Tests.{by-test}

-- ---- Paulis

pub masks-of-whole : (P Q : Pauli) → modulo4 P ≡ modulo4 Q → masks_of P ≡ masks_of Q
unfolding modulo4 masks_of
masks-of-whole P Q e = ap masks_of e

-- A signed row with the masks of I is I or -I.
pub plus-or-minus : (P : Pauli) → is_signed_row P ≡ true → masks_of P ≡ masks_of identity
    → (modulo4 P ≡ modulo4 identity) ⊎ (modulo4 P ≡ modulo4 minus_identity)
unfolding masks_of minus_identity definitions
plus-or-minus P signed e =
    go (sign_of P)
    (row-returns 0 P (rw (ap (λ (R : Pauli). R.a) e) (omega arith))
    (rw (ap (λ (R : Pauli). R.b) e) (omega arith)) signed)
  where
    go : (sign : Sign) → signed_row sign (letters_of 0 P) ≡ modulo4 P
        → (modulo4 P ≡ modulo4 identity) ⊎ (modulo4 P ≡ modulo4 minus_identity)
    go Plus row = inl (sym row)
    go Minus row = inr (sym row)

pub minus-is-not-plus : modulo4 minus_identity ≡ modulo4 identity → ⊥
unfolding modulo4 minus_identity
minus-is-not-plus e = let differ : ◌≡◌ {A = ℕ} 2 0 = ap (λ (P : Pauli). P.p) e in omega arith

pub commuting-more : (v : View) (rows : List Pauli) (P : Pauli) → Commuting v rows → All (Commute v P) rows
    → Commuting v (rows ++ P ∷ [])
commuting-more v rows P commuting c =
    (all_append (λ g. All (Commute v g) (rows ++ P ∷ [])) rows (P ∷ [])).1 (
      all-zip {P = λ g. All (Commute v g) rows} {Q = Commute v P}
          (λ g all own. (all_append (Commute v g) rows (P ∷ [])).1 (all, (sym own, tt))) rows
          commuting c,
      ((all_append (Commute v P) rows (P ∷ [])).1 (c, (refl, tt)), tt),
    )

-- ---- rows

module _ (n : ℕ) where
  abbrev pub Rows : List Pauli → Type 0
  Rows rows = All (λ P. is_row n P ≡ true) rows

  pub row-parts : (P : Pauli) → is_row n P ≡ true → (on_qubits n P ≡ true) × (is_signed_row P ≡ true)
  unfolding is_row
  row-parts P h = both (on_qubits n P) (is_signed_row P) h

  row-product : (P Q : Pauli) → is_row n P ≡ true → is_row n Q ≡ true → Commute whole P Q
      → is_row n (product P Q) ≡ true
  unfolding is_row
  row-product P Q hP hQ c =
      let (qP, sP) = row-parts P hP in
      let (qQ, sQ) = row-parts Q hQ in
      rw (product-on-qubits n P Q qP qQ) (rows-product P Q sP sQ ((commute-whole P Q).1 c))

  row-whole : (P : Pauli) → is_row n (modulo4 P) ≡ is_row n P
  unfolding is_row on_qubits is_signed_row has_sign has_phase modulo4
  row-whole P = rw mod-mod

  identity-row : is_row n identity ≡ true
  unfolding is_row on_qubits definitions
  identity-row = rw (lt-ltb 0 (2 ^ n) (pow_pos n))

  pub squares-rows : (rows : List Pauli) → Rows rows → Squares whole rows
  squares-rows = all_map (λ P row. square-row P (row-parts P row).1)

  pub qubits-rows : (rows : List Pauli) → Rows rows → OnQubits n rows
  qubits-rows = all_map (λ P row. (row-parts P row).0)

  -- Members are rows.
  pub generated-rows : (rows : List Pauli) → Rows rows → Commuting whole rows → (P : Pauli) → Generated whole rows P
      → is_row n P ≡ true
  generated-rows rows r c P g =
      (generated-least whole Member (identity-row, generated-identity whole rows) closed respects rows members P g).0
    where
      Member : Pauli → Type 0
      Member P = (is_row n P ≡ true) × Generated whole rows P

      members : All Member rows
      members =
          all-zip {P = λ P. is_row n P ≡ true} {Q = Generated whole rows} (λ P r g. (r, g)) rows r
          (generates-rows whole rows)

      closed : (P Q : Pauli) → Member P → Member Q → Member (product P Q)
      closed P Q (rP, gP) (rQ, gQ) = (
        row-product P Q rP rQ (generated-commute whole rows c P Q gP gQ),
        generated-product whole rows (c, squares-rows rows r) P Q gP gQ,
      )

      respects : (P Q : Pauli) → modulo4 P ≡ modulo4 Q → Member P → Member Q
      respects P Q e (r, g) =
          (sym (row-whole Q) ∙ ap (is_row n) (sym e) ∙ row-whole P ∙ r, generated-as whole rows P Q e g)

  -- ---- the rows of a stabilizer group

  -- Rows of n qubits that commute, and of which no product is -I. Some may be products of others.
  pub record Stabilizer (rows : List Pauli) : Type 0 where
    pub are_rows : Rows rows
    pub commuting : Commuting whole rows
    pub no_minus : Generated whole rows minus_identity → ⊥

  pub stabilizer-closed : (rows : List Pauli) → Stabilizer rows → Closed whole rows
  stabilizer-closed rows s = (s.commuting, squares-rows rows s.are_rows)

  -- Their canonical generators generate the same signed group.
  abbrev Same : List Pauli → Type 0
  Same rows = (R : Pauli) → Generated whole rows R ↔ Generated whole (canonical_generators n rows) R

  module _ (rows : List Pauli) (P : Pauli) (s : Stabilizer (rows ++ P ∷ [])) where
    abbrev all : List Pauli
    all = rows ++ P ∷ []

    generates : All (Generated whole all) rows × All (Generated whole all) (P ∷ [])
    generates = (all_append (Generated whole all) rows (P ∷ [])).0 (generates-rows whole all)

    wider : (R : Pauli) → Generated whole rows R → Generated whole all R
    wider = generated-within whole rows all (stabilizer-closed all s) generates.0

    -- The rows before the last are a stabilizer group's too.
    stabilizer-before : Stabilizer rows
    stabilizer-before = record {
      are_rows = ((all_append (λ P. is_row n P ≡ true) rows (P ∷ [])).0 s.are_rows).0;
      commuting = all_map (λ g commute. ((all_append (Commute whole g) rows (P ∷ [])).0 commute).0) rows
          ((all_append (λ g. All (Commute whole g) all) rows (P ∷ [])).0 s.commuting).0;
      no_minus = λ g. s.no_minus (wider minus_identity g);
    }

    module _ (same : Same rows) where
      abbrev hs : List Pauli
      hs = canonical_generators n rows

      abbrev left : Pauli
      left = reduced n hs P

      -- What is left of the last row is a member, so it is not -I.
      left-member : Generated whole all left
      left-member =
          let r = reduces whole n hs P in
          generated-as whole all (product P r.by) left (sym r.left)
          (generated-product whole all (stabilizer-closed all s) P r.by generates.1.0
          (wider r.by ((same r.by).1 r.generated)))

      left-plus : same_masks left identity ≡ true → modulo4 left ≡ modulo4 identity
      left-plus one =
          let row = generated-rows all s.are_rows s.commuting left left-member in
          ⊎_elim (λ plus. plus)
          (λ minus. absurd (s.no_minus (generated-as whole all left minus_identity minus left-member)))
          (plus-or-minus left (row-parts left row).1 ((same-masks left identity).0 one))

      same_more : Same all
      unfolding added
      same_more R =
          let placed = stands-before whole hs rows (P ∷ []) (stabilizer-closed all s) same in
          rw canonical-more (Iff.trans (placed.1 R)
          (by-test (λ _. Generated whole (hs ++ P ∷ []) R ↔ Generated whole (added n hs P) R) (same_masks left identity)
          (λ one. rw (modulo4-masks, one) (added-nothing whole n hs P placed.0 (left-plus one) R))
          (λ new. added-same whole n hs P placed.0 new R)))

  pub canonical-same : (rows : List Pauli) → Stabilizer rows → Same rows
  unfolding canonical_generators
  canonical-same =
      from_last (λ rows. Stabilizer rows → Same rows) (λ s R. Iff.rfl)
      (λ rows P known s. same_more rows P s (known (stabilizer-before rows P s)))

  -- They are rows too.
  pub canonical-rows : (rows : List Pauli) → Stabilizer rows → Rows (canonical_generators n rows)
  canonical-rows rows s =
      let hs = canonical_generators n rows in
      all_map {P = Generated whole hs}
      (λ P g. generated-rows rows s.are_rows s.commuting P ((canonical-same rows s P).1 g)) hs
      (generates-rows whole hs)
