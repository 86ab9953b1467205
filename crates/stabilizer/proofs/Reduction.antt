-- Reduction keeps what rows generate, whole and phase aside, and decides what they generate phase aside. Two lists
-- generate the same where each generates the other's rows; and what is left of a row is the row times a member of what
-- the others generate, whose square is I.
use mathlib.Core.Bool.{true, false}
use mathlib.Core.List.{List, [], ◌∷◌, ◌++◌, map, foldl-append}
use mathlib.Core.Logic.Iff
use mathlib.Core.Logic.{◌↔◌}
use mathlib.Core.Path.{◌≡◌, refl, ap, ap₂, sym, ◌∙◌}
use Prim.Native.Nat.{ℕ}
use Rattle.pauli.specs.declared.Pauli.{Pauli}
use Rattle.pauli.specs.Product.{identity, product, modulo4, same_masks}
use Rattle.pauli.proofs.Product.{pauli, product-assoc, product-identity-l}
use Rattle.code_record.specs.Record.{on_qubits}
use Rattle.stabilizer.specs.Canonical.{column, pivot, cleared, reduced, reduces_to_identity, insert_by_pivot, added}
use Rattle.stabilizer.specs.Canonical.{canonical_generators}
use Rattle.stabilizer.specs.Group.{product_of}
use Rattle.stabilizer.proofs.All.{All, all_map, all-every, all_append, all-mapped, from_last}
use Rattle.stabilizer.proofs.Columns.{column-masks}
use Rattle.stabilizer.proofs.Echelon.{OnQubits, Echelon, echelon-none, cleared-cases, reduced-clear}
use Rattle.stabilizer.proofs.Echelon.{clear-selection, all_inserted, modulo4-masks, added-cases}
use Rattle.stabilizer.proofs.Echelon.{added-on-qubits, added-echelon}
use Rattle.stabilizer.proofs.Generated.{modulo4-modulo4, View, phase_aside, masks_of, cancelled-r, brought-r}
use Rattle.stabilizer.proofs.Generated.{Commute, Closed, Generated}
use Rattle.stabilizer.proofs.Generated.{generated-identity, generated-as, generated-skip, generated-take}
use Rattle.stabilizer.proofs.Generated.{generates-rows, generated-product, generated-square, closed-within}
use Rattle.stabilizer.proofs.Generated.{generated-within}
use Rattle.stabilizer.proofs.Members.{commute_aside, square-aside, same-masks, product_whole}
use Rattle.stabilizer.proofs.Tests.{by-test}

-- ---- lists that generate each other's rows

module _ (v : View) where
  -- The rows are closed, and generate what the others do.
  abbrev pub StandsFor : List Pauli → List Pauli → Type 0
  StandsFor rows others = Closed v rows × ((R : Pauli) → Generated v others R ↔ Generated v rows R)

  stands-for : (rows others : List Pauli) → Closed v others → All (Generated v others) rows
      → (Closed v rows → All (Generated v rows) others)
      → StandsFor rows others
  stands-for rows others closed within back =
      let own = closed-within v rows others closed within in
      (own, λ R. (generated-within v others rows own (back own) R, generated-within v rows others closed within R))

  generates-parts : (rows more : List Pauli)
      → All (Generated v (rows ++ more)) rows × All (Generated v (rows ++ more)) more
  generates-parts rows more = (all_append (Generated v (rows ++ more)) rows more).0 (generates-rows v (rows ++ more))

  -- Rows that generate the same may stand for each other before more rows.
  pub stands-before : (hs rows more : List Pauli) → Closed v (rows ++ more)
      → ((R : Pauli) → Generated v rows R ↔ Generated v hs R)
      → StandsFor (hs ++ more) (rows ++ more)
  stands-before hs rows more closed same =
      stands-for (hs ++ more) (rows ++ more) closed (within hs rows closed (λ R. (same R).1))
      (λ own. within rows hs own (λ R. (same R).0))
    where
      within : (hs rows : List Pauli) → Closed v (rows ++ more) → ((R : Pauli) → Generated v hs R → Generated v rows R)
          → All (Generated v (rows ++ more)) (hs ++ more)
      within hs rows closed same =
          let (first, last) = generates-parts rows more in
          (all_append (Generated v (rows ++ more)) hs more).1 (
            all_map {P = Generated v hs} (λ R g. generated-within v rows (rows ++ more) closed first R (same R g)) hs
                (generates-rows v hs),
            last,
          )

-- ---- a row is reduced

module _ (v : View) (n : ℕ) where
  -- What is left of a row is the row times what the others generate.
  pub record Reduces (hs : List Pauli) (P : Pauli) : Type 0 where
    pub by : Pauli
    pub generated : Generated v hs by
    pub left : v.of (reduced n hs P) ≡ v.of (product P by)

  pub reduces : (hs : List Pauli) (P : Pauli) → Reduces hs P
  unfolding reduced
  reduces [] P = record { by = identity; generated = generated-identity v []; left = sym (v.identity-r P) }
  reduces (h ∷ hs) P = step (reduces hs (cleared n h P))
    where
      step : Reduces hs (cleared n h P) → Reduces (h ∷ hs) P
      step r =
          let S = r.by in
          cleared-cases n (λ Q. v.of (reduced n (h ∷ hs) P) ≡ v.of (product Q S) → Reduces (h ∷ hs) P) h P
          (λ one e. record {
            by = product h S;
            generated = generated-take v h hs S r.generated;
            left = e ∙ ap v.of (product-assoc P h S);
          })
          (λ none e. record { by = S; generated = generated-skip v h hs S r.generated; left = e }) r.left

  -- So the row is what is left times the same.
  reduces-back : (hs : List Pauli) (P : Pauli) → Closed v hs → (r : Reduces hs P)
      → v.of P ≡ v.of (product (reduced n hs P) r.by)
  reduces-back hs P closed r =
      brought-r v P r.by (reduced n hs P) (generated-square v hs closed r.by r.generated) (sym r.left)

  -- A row of which I is left is generated.
  left_one : (hs : List Pauli) (P : Pauli) → Closed v hs → v.of (reduced n hs P) ≡ v.of identity → Generated v hs P
  left_one hs P closed one =
      let r = reduces hs P in
      let S = r.by in
      generated-as v hs S P
      (sym (reduces-back hs P closed r ∙ v.product-as (reduced n hs P) identity S S one refl ∙ v.identity-l S))
      r.generated

  left-stands : (hs : List Pauli) (P Q : Pauli) → v.of Q ≡ v.of (reduced n hs P) → Closed v (hs ++ P ∷ [])
      → StandsFor v (hs ++ Q ∷ []) (hs ++ P ∷ [])
  left-stands hs P Q is closed =
      stands-for v (hs ++ Q ∷ []) (hs ++ P ∷ []) closed (within P Q closed (is ∙ r.left))
      (λ own. within Q P own
      (reduces-back hs P front r ∙ v.product-as (reduced n hs P) Q r.by r.by (sym is) refl))
    where
      r : Reduces hs P
      r = reduces hs P

      within : (P Q : Pauli) → Closed v (hs ++ P ∷ []) → v.of Q ≡ v.of (product P r.by)
          → All (Generated v (hs ++ P ∷ [])) (hs ++ Q ∷ [])
      within P Q closed e =
          let rows = hs ++ P ∷ [] in
          let (first, (last, _)) = generates-parts v hs (P ∷ []) in
          (all_append (Generated v rows) hs (Q ∷ [])).1 (
            first,
            (
              generated-as v rows (product P r.by) Q (sym e)
                  (generated-product v rows closed P r.by last
                  (generated-within v hs rows closed first r.by r.generated)),
              tt,
            ),
          )

      front : Closed v hs
      front = closed-within v hs (hs ++ P ∷ []) closed (generates-parts v hs (P ∷ [])).0

  -- A phase read modulo 4 changes neither view.
  phase-as : (P : Pauli) → v.of (modulo4 P) ≡ v.of P
  phase-as P = ap v.of (sym (product-identity-l P)) ∙ v.identity-l P

  -- A row may be replaced by what is left of it.
  pub reduced-same : (hs : List Pauli) (P : Pauli) → Closed v (hs ++ P ∷ []) → (R : Pauli)
      → Generated v (hs ++ P ∷ []) R ↔ Generated v (hs ++ reduced n hs P ∷ []) R
  reduced-same hs P closed = (left-stands hs P (reduced n hs P) refl closed).1

  -- ---- a row is added

  inserted_stands : (hs : List Pauli) (Q : Pauli) → Closed v (hs ++ Q ∷ [])
      → StandsFor v (insert_by_pivot n Q (map (cleared n Q) hs)) (hs ++ Q ∷ [])
  inserted_stands hs Q closed = stands-for v more rows closed there back
    where
      rows : List Pauli
      rows = hs ++ Q ∷ []

      more : List Pauli
      more = insert_by_pivot n Q (map (cleared n Q) hs)

      -- Each row is h or h times Q, and h is such a row, or it times Q.
      there : All (Generated v rows) more
      there =
          let (first, (q, _)) = generates-parts v hs (Q ∷ []) in
          (all_inserted n (Generated v rows) Q (map (cleared n Q) hs)).1 (
            q,
            (all-mapped (Generated v rows) (cleared n Q) hs).1
                (all_map (λ h g. cleared-cases n (Generated v rows) Q h (λ one. generated-product v rows closed h Q g q)
                (λ none. g)) hs first),
          )

      back : Closed v more → All (Generated v more) rows
      back own =
          (all_append (Generated v more) hs (Q ∷ [])).1
          (all_map returns hs ((all-mapped (Generated v more) (cleared n Q) hs).0 parts.1), (parts.0, tt))
        where
          parts : Generated v more Q × All (Generated v more) (map (cleared n Q) hs)
          parts = (all_inserted n (Generated v more) Q (map (cleared n Q) hs)).0 (generates-rows v more)

          returns : (h : Pauli) → Generated v more (cleared n Q h) → Generated v more h
          returns h =
              cleared-cases n (λ X. Generated v more X → Generated v more h) Q h
              (λ one g. generated-as v more (product (product h Q) Q) h
              (cancelled-r v h Q (generated-square v more own Q parts.0))
              (generated-product v more own (product h Q) Q g parts.0))
              (λ none g. g)

  -- A row of which more than a phase is left is added, and one of which I is left adds nothing.
  pub added-same : (hs : List Pauli) (P : Pauli) → Closed v (hs ++ P ∷ [])
      → same_masks (reduced n hs P) identity ≡ false
      → (R : Pauli)
      → Generated v (hs ++ P ∷ []) R ↔ Generated v (added n hs P) R
  unfolding added
  added-same hs P closed new R =
      let Q = modulo4 (reduced n hs P) in
      let left = left-stands hs P Q (phase-as (reduced n hs P)) closed in
      rw (modulo4-masks, new) (Iff.trans (left.1 R) ((inserted_stands hs Q left.0).1 R))

  pub added-nothing : (hs : List Pauli) (P : Pauli) → Closed v (hs ++ P ∷ []) → v.of (reduced n hs P) ≡ v.of identity
      → (R : Pauli)
      → Generated v (hs ++ P ∷ []) R ↔ Generated v hs R
  added-nothing hs P closed one =
      (stands-for v hs (hs ++ P ∷ []) closed (generates-parts v hs (P ∷ [])).0
      (λ own. (all_append (Generated v hs) hs (P ∷ [])).1 (generates-rows v hs, (left_one hs P own one, tt)))).1

-- ---- the canonical generators

-- Phase aside all rows commute, and all squares are I.
closed-aside : (rows : List Pauli) → Closed phase_aside rows
closed-aside rows = (
  all-every (λ g. All (Commute phase_aside g) rows) (λ g. all-every (Commute phase_aside g) (commute_aside g) rows)
      rows,
  all-every (λ g. phase_aside.of (product g g) ≡ phase_aside.of identity) square-aside rows,
)

module _ (n : ℕ) where
  pub canonical-more : (rows : List Pauli) (P : Pauli)
      → canonical_generators n (rows ++ P ∷ []) ≡ added n (canonical_generators n rows) P
  unfolding canonical_generators
  canonical-more rows P = foldl-append (added n) [] rows (P ∷ [])

  canonical-form : (rows : List Pauli) → OnQubits n rows
      → OnQubits n (canonical_generators n rows) × Echelon n (canonical_generators n rows)
  unfolding canonical_generators
  canonical-form = from_last Form (λ q. (tt, echelon-none n)) more
    where
      Form : List Pauli → Type 0
      Form rows = OnQubits n rows → OnQubits n (canonical_generators n rows) × Echelon n (canonical_generators n rows)

      more : (rows : List Pauli) (P : Pauli) → Form rows → Form (rows ++ P ∷ [])
      more rows P form q =
          let hs = canonical_generators n rows in
          let (qs, (qP, _)) = (all_append (λ g. on_qubits n g ≡ true) rows (P ∷ [])).0 q in
          let (qhs, e) = form qs in
          rw canonical-more (added-on-qubits n hs P qhs qP, added-echelon n hs P qhs qP e)

  pub canonical-on-qubits : (rows : List Pauli) → OnQubits n rows → OnQubits n (canonical_generators n rows)
  canonical-on-qubits rows q = (canonical-form rows q).0

  pub canonical-echelon : (rows : List Pauli) → OnQubits n rows → Echelon n (canonical_generators n rows)
  canonical-echelon rows q = (canonical-form rows q).1

  -- Their phases are 0 to 3: those of products are, and so is that of what is left.
  abbrev Low : Pauli → Type 0
  Low P = modulo4 P ≡ P

  added-low : (hs : List Pauli) (P : Pauli) → All Low hs → All Low (added n hs P)
  added-low hs P low =
      let Q = modulo4 (reduced n hs P) in
      let own = modulo4-modulo4 (reduced n hs P) in
      added-cases n hs P (All Low) (λ same. low)
      (λ new. (all_inserted n Low Q (map (cleared n Q) hs)).1 (
        own,
        (all-mapped Low (cleared n Q) hs).1
            (all_map (λ h l. cleared-cases n Low Q h (λ one. product_whole h Q) (λ none. l)) hs low),
      ))

  pub canonical-low : (rows : List Pauli) → All Low (canonical_generators n rows)
  unfolding canonical_generators
  canonical-low =
      from_last (λ rows. All Low (canonical_generators n rows)) tt
      (λ rows P low. rw canonical-more (added-low (canonical_generators n rows) P low))

  added-aside : (hs : List Pauli) (P R : Pauli)
      → Generated phase_aside (hs ++ P ∷ []) R ↔ Generated phase_aside (added n hs P) R
  unfolding added
  added-aside hs P R =
      let Q = reduced n hs P in
      let closed = closed-aside (hs ++ P ∷ []) in
      by-test (λ _. Generated phase_aside (hs ++ P ∷ []) R ↔ Generated phase_aside (added n hs P) R)
      (same_masks Q identity)
      (λ one. rw (modulo4-masks, one) (added-nothing phase_aside n hs P closed ((same-masks Q identity).0 one) R))
      (λ new. added-same phase_aside n hs P closed new R)

  canonical-phase-aside : (rows : List Pauli) (P : Pauli)
      → Generated phase_aside rows P ↔ Generated phase_aside (canonical_generators n rows) P
  unfolding canonical_generators
  canonical-phase-aside = from_last Same (λ R. Iff.rfl) more
    where
      Same : List Pauli → Type 0
      Same rows = (R : Pauli) → Generated phase_aside rows R ↔ Generated phase_aside (canonical_generators n rows) R

      more : (rows : List Pauli) (P : Pauli) → Same rows → Same (rows ++ P ∷ [])
      more rows P same R =
          let hs = canonical_generators n rows in
          let before = stands-before phase_aside hs rows (P ∷ []) (closed-aside (rows ++ P ∷ [])) same in
          rw canonical-more (Iff.trans (before.1 R) (added-aside hs P R))

  -- A Pauli is generated phase aside exactly where it reduces to I: what is left is generated too, and has no one in
  -- the column of any pivot.
  pub reduces-decides : (hs : List Pauli) → Echelon n hs → (P : Pauli)
      → (reduces_to_identity n hs P ≡ true) ↔ Generated phase_aside hs P
  unfolding reduces_to_identity masks_of
  reduces-decides hs e P = (
    λ one. left_one phase_aside n hs P (closed-aside hs) ((same-masks Q identity).0 one),
    λ g. (same-masks Q identity).1 (nothing (what_is-left g)),
  )
    where
      Q : Pauli
      Q = reduced n hs P

      what_is-left : Generated phase_aside hs P → Generated phase_aside hs Q
      what_is-left g =
          let r = reduces phase_aside n hs P in
          generated-as phase_aside hs (product P r.by) Q (sym r.left)
          (generated-product phase_aside hs (closed-aside hs) P r.by g r.generated)

      nothing : Generated phase_aside hs Q → masks_of Q ≡ masks_of identity
      nothing (selection, same) = sym same ∙ ap₂ (pauli 0) zeros.0 zeros.1
        where
          R : Pauli
          R = product_of selection hs

          columns : (c : ℕ) → column n R c ≡ column n Q c
          columns = column-masks n R Q (ap (λ P. P.a) same) (ap (λ P. P.b) same)

          zeros : (R.a ≡ 0) × (R.b ≡ 0)
          zeros = clear-selection n hs e selection
              (all_map (λ h zero. columns (pivot n h) ∙ zero) hs (reduced-clear n hs P e.spread))

  pub canonical-decides : (rows : List Pauli) → OnQubits n rows → (P : Pauli)
      → (reduces_to_identity n (canonical_generators n rows) P ≡ true) ↔ Generated phase_aside rows P
  canonical-decides rows q P =
      Iff.trans (reduces-decides (canonical_generators n rows) (canonical-echelon rows q) P)
      (Iff.symm (canonical-phase-aside rows P))
