-- What rows generate: the products of their selections. Of rows that commute and whose squares are I it is closed under
-- product: a row moves to its place in the product, and goes away if it is there. A Pauli is looked at whole, its phase
-- modulo 4, or phase aside, by its masks; the laws are the same in both views, and are proved once.
use mathlib.Core.Bool.{Bool, true, false}
use mathlib.Core.List.{List, [], ◌∷◌}
use mathlib.Core.Path.{◌≡◌, refl, ap, ap₂, sym, ◌∙◌}
use Prim.Native.Nat.{◌+◌, ◌/◌}
use native.Mathlib.Nat.{mod-mod}
use native.Mathlib.Omega.{arith}
use Rattle.pauli.specs.declared.Pauli.{Pauli}
use Rattle.pauli.specs.Product.{identity, product, modulo4}
use Rattle.pauli.proofs.Modulo.{same-remainder}
use Rattle.pauli.proofs.Product.{same_parts, product-assoc, product-identity-l, product-identity-r}
use Rattle.stabilizer.specs.Group.{product_of}
use Rattle.stabilizer.proofs.All.{All, all_map, all-zip}

pub record View : Type 0 where
  pub of : Pauli → Pauli
  pub product-as : (P P' Q Q' : Pauli) → of P ≡ of P' → of Q ≡ of Q' → of (product P Q) ≡ of (product P' Q')
  pub identity-l : (P : Pauli) → of (product identity P) ≡ of P
  pub identity-r : (P : Pauli) → of (product P identity) ≡ of P

-- P with the phase 0.
unfoldable pub masks_of : Pauli → Pauli
masks_of P = record { p = 0; a = P.a; b = P.b }

-- ---- the two views

product-modulo4 : (P Q : Pauli) → product (modulo4 P) (modulo4 Q) ≡ product P Q
unfolding product modulo4
product-modulo4 P Q = same_parts _ _ (same-remainder 4 _ _ (P.p / 4 + Q.p / 4) 0 (omega arith)) refl refl

pub modulo4-modulo4 : (P : Pauli) → modulo4 (modulo4 P) ≡ modulo4 P
unfolding modulo4
modulo4-modulo4 P = same_parts _ _ (mod-mod P.p 4) refl refl

pub whole-product : (P P' Q Q' : Pauli) → modulo4 P ≡ modulo4 P' → modulo4 Q ≡ modulo4 Q'
    → modulo4 (product P Q) ≡ modulo4 (product P' Q')
whole-product P P' Q Q' e f = ap modulo4 (sym (product-modulo4 P Q) ∙ ap₂ product e f ∙ product-modulo4 P' Q')

pub whole-identity-l : (P : Pauli) → modulo4 (product identity P) ≡ modulo4 P
whole-identity-l P = ap modulo4 (product-identity-l P) ∙ modulo4-modulo4 P

pub whole-identity-r : (P : Pauli) → modulo4 (product P identity) ≡ modulo4 P
whole-identity-r P = ap modulo4 (product-identity-r P) ∙ modulo4-modulo4 P

abbrev pub whole : View
whole =
    record { of = modulo4; product-as = whole-product; identity-l = whole-identity-l; identity-r = whole-identity-r }

pub aside-product : (P P' Q Q' : Pauli) → masks_of P ≡ masks_of P' → masks_of Q ≡ masks_of Q'
    → masks_of (product P Q) ≡ masks_of (product P' Q')
unfolding masks_of product
aside-product P P' Q Q' e f = ap₂ (λ (X Y : Pauli). masks_of (product X Y)) e f

pub aside-identity-l : (P : Pauli) → masks_of (product identity P) ≡ masks_of P
unfolding masks_of modulo4
aside-identity-l P = ap masks_of (product-identity-l P)

pub aside-identity-r : (P : Pauli) → masks_of (product P identity) ≡ masks_of P
unfolding masks_of modulo4
aside-identity-r P = ap masks_of (product-identity-r P)

abbrev pub phase_aside : View
phase_aside =
    record { of = masks_of; product-as = aside-product; identity-l = aside-identity-l; identity-r = aside-identity-r }

-- Of no rows only I is a product.
pub none-taken : (selection : List Bool) → product_of selection [] ≡ identity
unfolding product_of
none-taken [] = refl
none-taken (b ∷ selection) = refl

module _ (v : View) where
  -- ---- a factor whose square is I

  -- It goes away where it meets itself, and so is brought to the other side, from the left and from the right.
  cancelled_l : (P R : Pauli) → v.of (product P P) ≡ v.of identity → v.of (product P (product P R)) ≡ v.of R
  cancelled_l P R one = ap v.of (sym (product-assoc P P R)) ∙ v.product-as (product P P) identity R R one refl
      ∙ v.identity-l R

  pub cancelled-r : (P S : Pauli) → v.of (product S S) ≡ v.of identity → v.of (product (product P S) S) ≡ v.of P
  cancelled-r P S one = ap v.of (product-assoc P S S) ∙ v.product-as P P (product S S) identity refl one
      ∙ v.identity-r P

  pub brought_l : (P Q R : Pauli) → v.of (product P P) ≡ v.of identity → v.of (product P Q) ≡ v.of R
      → v.of Q ≡ v.of (product P R)
  brought_l P Q R one e = sym (cancelled_l P Q one) ∙ v.product-as P P (product P Q) R refl e

  pub brought-r : (P S R : Pauli) → v.of (product S S) ≡ v.of identity → v.of (product P S) ≡ v.of R
      → v.of P ≡ v.of (product R S)
  brought-r P S R one e = sym (cancelled-r P S one) ∙ v.product-as (product P S) R S S e refl

  -- ---- what rows generate

  abbrev pub Commute : Pauli → Pauli → Type 0
  Commute P Q = v.of (product P Q) ≡ v.of (product Q P)

  abbrev pub Commuting : List Pauli → Type 0
  Commuting rows = All (λ g. All (Commute g) rows) rows

  -- The square of each row is I.
  abbrev pub Squares : List Pauli → Type 0
  Squares rows = All (λ g. v.of (product g g) ≡ v.of identity) rows

  -- Rows with both: what they generate is closed under product.
  abbrev pub Closed : List Pauli → Type 0
  Closed rows = Commuting rows × Squares rows

  abbrev pub Generated : List Pauli → Pauli → Type 0
  Generated rows P = (selection : List Bool) × (v.of (product_of selection rows) ≡ v.of P)

  pub generated-identity : (rows : List Pauli) → Generated rows identity
  unfolding product_of
  generated-identity rows = ([], refl)

  pub generated-as : (rows : List Pauli) (P Q : Pauli) → v.of P ≡ v.of Q → Generated rows P → Generated rows Q
  generated-as rows P Q e g = (g.0, g.1 ∙ e)

  -- One row more, not taken or taken.
  pub generated-skip : (g : Pauli) (rows : List Pauli) (P : Pauli) → Generated rows P → Generated (g ∷ rows) P
  unfolding product_of
  generated-skip g rows P (selection, e) = (false ∷ selection, e)

  pub generated-take : (g : Pauli) (rows : List Pauli) (P : Pauli) → Generated rows P
      → Generated (g ∷ rows) (product g P)
  unfolding product_of
  generated-take g rows P (selection, e) = (true ∷ selection, v.product-as g g (product_of selection rows) P refl e)

  -- Each row is generated.
  pub generates-rows : (rows : List Pauli) → All (Generated rows) rows
  generates-rows [] = tt
  generates-rows (g ∷ rows) = (
    generated-as (g ∷ rows) (product g identity) g (v.identity-r g)
        (generated-take g rows identity (generated-identity rows)),
    all_map (generated-skip g rows) rows (generates-rows rows),
  )

  -- What has I, is closed under product and has the rows has all that they generate.
  pub generated-least : (S : Pauli → Type 0) → S identity → ((P Q : Pauli) → S P → S Q → S (product P Q))
      → ((P Q : Pauli) → v.of P ≡ v.of Q → S P → S Q) → (rows : List Pauli) → All S rows → (P : Pauli)
      → Generated rows P → S P
  unfolding product_of
  generated-least S one closed respects rows all P (selection, e) =
      respects (product_of selection rows) P e (selected selection rows all)
    where
      selected : (selection : List Bool) (rows : List Pauli) → All S rows → S (product_of selection rows)
      selected [] rows all = one
      selected (b ∷ selection) [] all = one
      selected (true ∷ selection) (g ∷ rows) all =
          closed g (product_of selection rows) all.0 (selected selection rows all.1)
      selected (false ∷ selection) (g ∷ rows) all = selected selection rows all.1

  -- ---- commuting rows

  -- A factor moves past one that it commutes with.
  moved : (P Q R : Pauli) → Commute P Q → v.of (product P (product Q R)) ≡ v.of (product Q (product P R))
  moved P Q R c =
      ap v.of (sym (product-assoc P Q R)) ∙ v.product-as (product P Q) (product Q P) R R c refl
      ∙ ap v.of (product-assoc Q P R)

  -- What commutes with the rows commutes with all that they generate.
  commute-generated : (P : Pauli) (rows : List Pauli) → All (Commute P) rows → (Q : Pauli) → Generated rows Q
      → Commute P Q
  commute-generated P = generated-least (Commute P) (v.identity-r P ∙ sym (v.identity-l P)) closed respects
    where
      closed : (Q R : Pauli) → Commute P Q → Commute P R → Commute P (product Q R)
      closed Q R q r = moved P Q R q ∙ v.product-as Q Q (product P R) (product R P) refl r
          ∙ ap v.of (sym (product-assoc Q R P))

      respects : (Q R : Pauli) → v.of Q ≡ v.of R → Commute P Q → Commute P R
      respects Q R e q = v.product-as P P R Q refl (sym e) ∙ q ∙ v.product-as Q R P P e refl

  -- Members of what commuting rows generate commute. Where the rows' squares are I, it is closed under product, and its
  -- members' squares are I.
  pub generated-commute : (rows : List Pauli) → Commuting rows → (P Q : Pauli) → Generated rows P → Generated rows Q
      → Commute P Q
  generated-commute rows c P Q p q =
      sym (commute-generated Q rows (all_map (λ g commutes. sym (commute-generated g rows commutes Q q)) rows c) P p)

  -- A row times a selection's product is a selection's product: the row moves to its place, and goes away if it is
  -- there.
  abbrev TimesSelections : List Pauli → Pauli → Type 0
  TimesSelections rows g = (selection : List Bool) → Generated rows (product g (product_of selection rows))

  row-times : (rows : List Pauli) → Closed rows → All (TimesSelections rows) rows
  unfolding product_of
  row-times [] closed = tt
  row-times (h ∷ rows) (c, s) =
      (itself, all-zip later rows c.1 (row-times rows (all_map (λ g commutes. commutes.1) rows c.1, s.1)))
    where
      itself : TimesSelections (h ∷ rows) h
      itself [] = (true ∷ [], refl)
      itself (true ∷ selection) = (false ∷ selection, sym (cancelled_l h (product_of selection rows) s.0))
      itself (false ∷ selection) = (true ∷ selection, refl)

      later : (g : Pauli) → All (Commute g) (h ∷ rows) → TimesSelections rows g → TimesSelections (h ∷ rows) g
      later g commutes times [] = generated-skip h rows (product g identity) (times [])
      later g commutes times (false ∷ selection) =
          generated-skip h rows (product g (product_of selection rows)) (times selection)
      later g commutes times (true ∷ selection) =
          generated-as (h ∷ rows) (product h (product g (product_of selection rows)))
          (product g (product h (product_of selection rows)))
          (sym (moved g h (product_of selection rows) commutes.0))
          (generated-take h rows (product g (product_of selection rows)) (times selection))

  pub generated-product : (rows : List Pauli) → Closed rows → (P Q : Pauli) → Generated rows P → Generated rows Q
      → Generated rows (product P Q)
  generated-product rows closed P Q p q =
      generated-least Times (λ R. generated-as rows R (product identity R) (sym (v.identity-l R))) joined respects rows
      (all_map of_selections rows (row-times rows closed)) P p Q q
    where
      Times : Pauli → Type 0
      Times P = (R : Pauli) → Generated rows R → Generated rows (product P R)

      joined : (P Q : Pauli) → Times P → Times Q → Times (product P Q)
      joined P Q p q R r =
          generated-as rows (product P (product Q R)) (product (product P Q) R) (ap v.of (sym (product-assoc P Q R)))
          (p (product Q R) (q R r))

      respects : (P Q : Pauli) → v.of P ≡ v.of Q → Times P → Times Q
      respects P Q e p R r = generated-as rows (product P R) (product Q R) (v.product-as P Q R R e refl) (p R r)

      of_selections : (g : Pauli) → TimesSelections rows g → Times g
      of_selections g times R (selection, e) =
          let member = product_of selection rows in
          generated-as rows (product g member) (product g R) (v.product-as g g member R refl e) (times selection)

  pub generated-square : (rows : List Pauli) → Closed rows → (P : Pauli) → Generated rows P
      → v.of (product P P) ≡ v.of identity
  generated-square rows closed P p =
      (generated-least Square (generated-identity rows, v.identity-l identity) joined respects rows
      (all-zip (λ g row square. (row, square)) rows (generates-rows rows) closed.1) P p).1
    where
      Square : Pauli → Type 0
      Square P = Generated rows P × (v.of (product P P) ≡ v.of identity)

      joined : (P Q : Pauli) → Square P → Square Q → Square (product P Q)
      joined P Q p q = (
        generated-product rows closed P Q p.0 q.0,
        ap v.of (product-assoc P Q (product P Q))
            ∙ v.product-as P P (product Q (product P Q)) (product P (product Q Q)) refl
            (moved Q P Q (generated-commute rows closed.0 Q P q.0 p.0))
            ∙ cancelled_l P (product Q Q) p.1 ∙ q.1,
      )

      respects : (P Q : Pauli) → v.of P ≡ v.of Q → Square P → Square Q
      respects P Q e p = (generated-as rows P Q e p.0, v.product-as Q P Q P (sym e) (sym e) ∙ p.1)

  -- ---- rows that others generate

  -- They commute and have squares as those do, and generate nothing more.
  pub closed-within : (rows others : List Pauli) → Closed others → All (Generated others) rows → Closed rows
  closed-within rows others closed all = (
    all_map (λ g member. all_map (λ h. generated-commute others closed.0 g h member) rows all) rows all,
    all_map (generated-square others closed) rows all,
  )

  pub generated-within : (rows others : List Pauli) → Closed others → All (Generated others) rows
      → (P : Pauli) → Generated rows P → Generated others P
  generated-within rows others closed =
      generated-least (Generated others) (generated-identity others) (generated-product others closed)
      (generated-as others) rows
