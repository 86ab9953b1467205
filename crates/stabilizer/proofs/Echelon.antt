-- Reduced echelon form along a list, and that adding a row keeps it. Clearing a row's pivot keeps every column in which
-- that row has no one, so rows that have none at each other's pivots stay so, with the pivots where they were, and one
-- more goes in where the pivots rise. That holds of any rows; those on n qubits have a pivot besides.
use mathlib.Core.Bool.{Bool, true, false, cond}
use mathlib.Core.List.{List, [], ◌∷◌, map}
use mathlib.Core.Logic.Iff
use mathlib.Core.Logic.{◌↔◌, ◌≢◌}
use mathlib.Core.Path.{◌≡◌, refl, ap, sym, ◌∙◌}
use Prim.Native.Nat.{ℕ, zero, suc, ◌*◌, ◌≤◌, ◌<◌}
use native.Mathlib.Decide.{dec_lt}
use native.Mathlib.Omega.{arith}
use borrow.Author.Tests.{eqb-true, eqb-false, ltb-true, ltb-false}
use lib.Dec.{eqb, ltb}
use lib.ListN.{length, get_or, length-map}
use Rattle.pauli.specs.declared.Pauli.{Pauli}
use Rattle.pauli.specs.Product.{identity, product, modulo4, same_masks}
use Rattle.code_record.specs.Record.{on_qubits}
use Rattle.stabilizer.specs.Group.{product_of}
use Rattle.stabilizer.specs.Canonical.{columns, column, pivot, ReducedEchelon, cleared, reduced, insert_by_pivot}
use Rattle.stabilizer.specs.Canonical.{added}
use Rattle.stabilizer.proofs.All.{All, all_map, all-zip, all-at, all-places, all-mapped}
use Rattle.stabilizer.proofs.Columns.{column-product, column-lt, column-identity, product-on-qubits}
use Rattle.stabilizer.proofs.Columns.{pivot-column, before-pivot, one-behind-pivot, one_inside, pivot-first}
use Rattle.stabilizer.proofs.Columns.{has-pivot}
use Rattle.stabilizer.proofs.Tests.{by-test}

-- Whether anything but a phase is left is told by the masks.
pub modulo4-masks : (P : Pauli) → same_masks (modulo4 P) identity ≡ same_masks P identity
unfolding modulo4 same_masks
modulo4-masks P = refl

module _ (n : ℕ) where
  abbrev pub OnQubits : List Pauli → Type 0
  OnQubits rows = All (λ P. on_qubits n P ≡ true) rows

  -- The pivot of h does not come behind that of g, and each stands alone in its column. Both are 2n where neither row
  -- has a one.
  pub record Apart (h g : Pauli) : Type 0 where
    pub ordered : pivot n h ≤ pivot n g
    pub below : column n g (pivot n h) ≡ 0
    pub above : column n h (pivot n g) ≡ 0

  abbrev pub Spread : List Pauli → Type 0
  Spread [] = Unit {0}
  Spread (h ∷ hs) = All (Apart h) hs × Spread hs

  abbrev HasPivot : Pauli → Type 0
  HasPivot h = pivot n h < 2 * n

  pub record Echelon (hs : List Pauli) : Type 0 where
    pub pivots : All HasPivot hs
    pub spread : Spread hs

  pub echelon-none : Echelon []
  echelon-none = record { pivots = tt; spread = tt }

  -- ---- the same as the definition by places

  pub apart-at : (hs : List Pauli) → Spread hs → (i j : ℕ) → i < j → j < length hs
      → Apart (get_or hs i identity) (get_or hs j identity)
  apart-at [] s i j l h = absurd (omega arith)
  apart-at (g ∷ hs) s i zero l h = absurd (omega arith)
  apart-at (g ∷ hs) s zero (suc j) l h = all-at (Apart g) identity hs s.0 j (omega arith)
  apart-at (g ∷ hs) s (suc i) (suc j) l h = apart-at hs s.1 i j (omega arith) (omega arith)

  rises : {h g : Pauli} → Apart h g → HasPivot g → pivot n h < pivot n g
  rises {h} {g} a l = elim (dec_lt (pivot n h) (pivot n g)) [
    | yes r ↦ r
    | no r ↦
        let same : pivot n h ≡ pivot n g = omega (arith, a.ordered) in
        absurd (omega (arith, pivot-column n g l, sym (ap (column n g) same) ∙ a.below))
  ]

  pub echelon-is-reduced : (hs : List Pauli) → Echelon hs → ReducedEchelon n hs
  echelon-is-reduced hs e = record {
    has_one = has;
    alone = alone;
    rise = λ i j l h. rises (apart-at hs e.spread i j l h) (has j h);
  }
    where
      has : (i : ℕ) → i < length hs → HasPivot (get_or hs i identity)
      has = all-at HasPivot identity hs e.pivots

      alone : (i j : ℕ) → i < length hs → j < length hs → i ≢ j
          → column n (get_or hs j identity) (pivot n (get_or hs i identity)) ≡ 0
      alone i j hi hj other = elim (dec_lt i j) [
        | yes l ↦ (apart-at hs e.spread i j l hj).below
        | no l ↦ (apart-at hs e.spread j i (omega arith) hi).above
      ]

  reduced-is-spread : (hs : List Pauli) → ReducedEchelon n hs → Spread hs
  reduced-is-spread [] e = tt
  reduced-is-spread (h ∷ hs) e = (
    all-places (Apart h) identity hs (λ i l. record {
      ordered = omega (arith, e.rise 0 (suc i) (omega arith) (omega arith));
      below = e.alone 0 (suc i) (omega arith) (omega arith) (omega arith);
      above = e.alone (suc i) 0 (omega arith) (omega arith) (omega arith);
    }),
    reduced-is-spread hs (record {
      has_one = λ i l. e.has_one (suc i) (omega arith);
      alone = λ i j hi hj other. e.alone (suc i) (suc j) (omega arith) (omega arith) (omega arith);
      rise = λ i j l h. e.rise (suc i) (suc j) (omega arith) (omega arith);
    }),
  )

  pub reduced-is-echelon : (hs : List Pauli) → ReducedEchelon n hs → Echelon hs
  reduced-is-echelon hs e =
      record { pivots = all-places HasPivot identity hs e.has_one; spread = reduced-is-spread hs e }

  -- ---- a row is cleared

  pub cleared-cases : (S : Pauli → Type 0) (h P : Pauli) → (column n P (pivot n h) ≡ 1 → S (product P h))
      → (column n P (pivot n h) ≡ 0 → S P)
      → S (cleared n h P)
  unfolding cleared
  cleared-cases S h P one none =
      let b = column n P (pivot n h) in
      by-test (λ (t : Bool). S (cond t (product P h) P)) (eqb b 1) (λ e. one (eqb-true b 1 e))
      (λ e. let other = eqb-false b 1 e in none (omega (arith, column-lt n P (pivot n h))))

  -- It changes no column in which h has no one, and leaves none in that of h's pivot.
  pub cleared-keeps : (h P : Pauli) (c : ℕ) → column n h c ≡ 0 → column n (cleared n h P) c ≡ column n P c
  cleared-keeps h P c z =
      cleared-cases (λ Q. column n Q c ≡ column n P c) h P
      (λ one. omega (arith, column-product n P h c, column-lt n P c)) (λ none. refl)

  cleared-column : (h P : Pauli) → column n (cleared n h P) (pivot n h) ≡ 0
  cleared-column h P =
      cleared-cases (λ Q. column n Q (pivot n h) ≡ 0) h P
      (λ one. let has = one_inside n P (pivot n h) one in
      omega (arith, column-product n P h (pivot n h), pivot-column n h has)) (λ none. none)

  cleared-on-qubits : (h P : Pauli) → on_qubits n h ≡ true → on_qubits n P ≡ true → on_qubits n (cleared n h P) ≡ true
  cleared-on-qubits h P qh qP =
      cleared-cases (λ Q. on_qubits n Q ≡ true) h P (λ one. product-on-qubits n P h qP qh) (λ none. qP)

  -- ---- a row is reduced

  reduced-on-qubits : (hs : List Pauli) (P : Pauli) → OnQubits hs → on_qubits n P ≡ true
      → on_qubits n (reduced n hs P) ≡ true
  unfolding reduced
  reduced-on-qubits [] P qs q = q
  reduced-on-qubits (h ∷ hs) P qs q = reduced-on-qubits hs (cleared n h P) qs.1 (cleared-on-qubits h P qs.0 q)

  reduced-keeps : (hs : List Pauli) (P : Pauli) (c : ℕ) → All (λ h. column n h c ≡ 0) hs
      → column n (reduced n hs P) c ≡ column n P c
  unfolding reduced
  reduced-keeps [] P c zeros = refl
  reduced-keeps (h ∷ hs) P c zeros = reduced-keeps hs (cleared n h P) c zeros.1 ∙ cleared-keeps h P c zeros.0

  -- What is left of a row has no one in the column of any pivot.
  pub reduced-clear : (hs : List Pauli) (P : Pauli) → Spread hs
      → All (λ h. column n (reduced n hs P) (pivot n h) ≡ 0) hs
  unfolding reduced
  reduced-clear [] P s = tt
  reduced-clear (h ∷ hs) P s = (
    reduced-keeps hs (cleared n h P) (pivot n h) (all_map (λ g a. a.below) hs s.0) ∙ cleared-column h P,
    reduced-clear hs (cleared n h P) s.1,
  )

  selection_clear : (hs : List Pauli) (c : ℕ) → All (λ h. column n h c ≡ 0) hs → (selection : List Bool)
      → column n (product_of selection hs) c ≡ 0
  unfolding product_of
  selection_clear hs c zeros [] = column-identity n c
  selection_clear [] c zeros (b ∷ bs) = column-identity n c
  selection_clear (h ∷ hs) c zeros (true ∷ bs) =
      omega (arith, column-product n h (product_of bs hs) c, selection_clear hs c zeros.1 bs)
  selection_clear (h ∷ hs) c zeros (false ∷ bs) = selection_clear hs c zeros.1 bs

  -- A product of rows in echelon form with no one in the column of any pivot is I, phase aside.
  pub clear-selection : (hs : List Pauli) → Echelon hs → (selection : List Bool)
      → All (λ h. column n (product_of selection hs) (pivot n h) ≡ 0) hs
      → ((product_of selection hs).a ≡ 0) × ((product_of selection hs).b ≡ 0)
  unfolding product_of
  clear-selection hs e [] zeros = (refl, refl)
  clear-selection [] e (b ∷ bs) zeros = (refl, refl)
  clear-selection (h ∷ hs) e (true ∷ bs) zeros =
      absurd (omega (
        arith,
        column-product n h (product_of bs hs) (pivot n h),
        pivot-column n h e.pivots.0,
        selection_clear hs (pivot n h) (all_map (λ g a. a.below) hs e.spread.0) bs,
        zeros.0,
      ))
  clear-selection (h ∷ hs) e (false ∷ bs) zeros =
      clear-selection hs (record { pivots = e.pivots.1; spread = e.spread.1 }) bs zeros.1

  -- ---- a row is added

  pub inserted-cases : (S : List Pauli → Type 0) (Q h : Pauli) (hs : List Pauli)
      → (pivot n Q < pivot n h → S (Q ∷ h ∷ hs)) → (pivot n h ≤ pivot n Q → S (h ∷ insert_by_pivot n Q hs))
      → S (insert_by_pivot n Q (h ∷ hs))
  unfolding insert_by_pivot
  inserted-cases S Q h hs first later =
      by-test (λ (t : Bool). S (elim t [ true ↦ Q ∷ h ∷ hs | false ↦ h ∷ insert_by_pivot n Q hs ]))
      (ltb (pivot n Q) (pivot n h))
      (λ t. first (ltb-true (pivot n Q) (pivot n h) t)) (λ t. later (ltb-false (pivot n Q) (pivot n h) t))

  pub all_inserted : (S : Pauli → Type 0) (Q : Pauli) (hs : List Pauli)
      → All S (insert_by_pivot n Q hs) ↔ (S Q × All S hs)
  unfolding insert_by_pivot
  all_inserted S Q [] = Iff.rfl
  all_inserted S Q (h ∷ hs) =
      inserted-cases (λ rows. All S rows ↔ (S Q × All S (h ∷ hs))) Q h hs (λ first. Iff.rfl)
      (λ later. let rest = all_inserted S Q hs in
      (λ (p, all). let (q, ps) = rest.0 all in (q, (p, ps)), λ (q, (p, ps)). (p, rest.1 (q, ps))))

  length_inserted : (Q : Pauli) (hs : List Pauli) → length (insert_by_pivot n Q hs) ≡ suc (length hs)
  unfolding insert_by_pivot
  length_inserted Q [] = refl
  length_inserted Q (h ∷ hs) =
      inserted-cases (λ rows. length rows ≡ suc (suc (length hs))) Q h hs (λ first. refl)
      (λ later. ap suc (length_inserted Q hs))

  module _ (Q : Pauli) where
    -- Neither row has a one in the column of the other's pivot.
    record Clear (h : Pauli) : Type 0 where
      here : column n h (pivot n Q) ≡ 0
      there : column n Q (pivot n h) ≡ 0

    inserted-spread : (hs : List Pauli) → Spread hs → All Clear hs → Spread (insert_by_pivot n Q hs)
    unfolding insert_by_pivot
    inserted-spread [] s all = (tt, tt)
    inserted-spread (h ∷ hs) s all =
        inserted-cases Spread Q h hs
        (λ first. (
          (
            record { ordered = omega arith; below = all.0.here; above = all.0.there },
            all-zip (λ g a c. record { ordered = omega (arith, a.ordered); below = c.here; above = c.there }) hs
                s.0 all.1,
          ),
          s,
        ))
        (λ later. (
          (all_inserted (Apart h) Q hs).1
              (record { ordered = later; below = all.0.there; above = all.0.here }, s.0),
          inserted-spread hs s.1 all.1,
        ))

    -- Clearing keeps the pivot of a row where Q has no one there: no one comes before it.
    cleared-pivot : (h : Pauli) → column n Q (pivot n h) ≡ 0 → pivot n (cleared n Q h) ≡ pivot n h
    cleared-pivot h z = cleared-cases (λ R. pivot n R ≡ pivot n h) Q h kept (λ none. refl)
      where
        kept : column n h (pivot n Q) ≡ 1 → pivot n (product h Q) ≡ pivot n h
        kept one =
            let before : pivot n h ≤ pivot n Q = one-behind-pivot n h (pivot n Q) one in
            let inside : pivot n Q < 2 * n = one_inside n h (pivot n Q) one in
            pivot-first n (product h Q) (pivot n h)
            (omega (arith, column-product n h Q (pivot n h), pivot-column n h (omega arith)))
            (λ j b. omega (arith, column-product n h Q j, before-pivot n h j b, before-pivot n Q j (omega arith)))

    -- So the rows stay apart, and none has a one in the column of Q's pivot.
    cleared-apart : (h g : Pauli) → column n Q (pivot n h) ≡ 0 → column n Q (pivot n g) ≡ 0 → Apart h g
        → Apart (cleared n Q h) (cleared n Q g)
    cleared-apart h g zh zg a = record {
      ordered = rw (cleared-pivot h zh, cleared-pivot g zg) a.ordered;
      below = rw (cleared-pivot h zh) (cleared-keeps Q g (pivot n h) zh ∙ a.below);
      above = rw (cleared-pivot g zg) (cleared-keeps Q h (pivot n g) zg ∙ a.above);
    }

    cleared-spread : (hs : List Pauli) → Spread hs → All (λ h. column n Q (pivot n h) ≡ 0) hs
        → Spread (map (cleared n Q) hs)
    cleared-spread [] s zeros = tt
    cleared-spread (h ∷ hs) s zeros = (
      (all-mapped (Apart (cleared n Q h)) (cleared n Q) hs).1
          (all-zip (λ g a z. cleared-apart h g zeros.0 z a) hs s.0 zeros.1),
      cleared-spread hs s.1 zeros.1,
    )

    cleared-clear : (hs : List Pauli) → All (λ h. column n Q (pivot n h) ≡ 0) hs → All Clear (map (cleared n Q) hs)
    cleared-clear hs zeros =
        (all-mapped Clear (cleared n Q) hs).1
        (all_map (λ h z. record { here = cleared-column Q h; there = rw (cleared-pivot h z) z }) hs zeros)

    cleared-pivots : (hs : List Pauli) → All HasPivot hs → All (λ h. column n Q (pivot n h) ≡ 0) hs
        → All HasPivot (map (cleared n Q) hs)
    cleared-pivots hs pivots zeros =
        (all-mapped HasPivot (cleared n Q) hs).1
        (all-zip {R = λ h. HasPivot (cleared n Q h)} (λ h l z. rw (cleared-pivot h z) l) hs pivots zeros)

  module _ (hs : List Pauli) (P : Pauli) where
    pub added-cases : (S : List Pauli → Type 0) → let Q = modulo4 (reduced n hs P) in
        (same_masks Q identity ≡ true → S hs)
        → (same_masks Q identity ≡ false → S (insert_by_pivot n Q (map (cleared n Q) hs))) → S (added n hs P)
    unfolding added
    added-cases S =
        let Q = modulo4 (reduced n hs P) in
        by-test (λ (t : Bool). S (cond t hs (insert_by_pivot n Q (map (cleared n Q) hs)))) (same_masks Q identity)

    pub added-on-qubits : OnQubits hs → on_qubits n P ≡ true → OnQubits (added n hs P)
    unfolding modulo4 on_qubits
    added-on-qubits qs q =
        let Q = modulo4 (reduced n hs P) in
        let left = reduced-on-qubits hs P qs q in
        added-cases OnQubits (λ same. qs)
        (λ new. (all_inserted (λ R. on_qubits n R ≡ true) Q (map (cleared n Q) hs)).1 (
          left,
          (all-mapped (λ R. on_qubits n R ≡ true) (cleared n Q) hs).1
              (all_map (λ h qh. cleared-on-qubits Q h left qh) hs qs),
        ))

    -- What is left has no one in the column of any pivot, so the rows that are cleared by it stay apart.
    left-clear : Spread hs → All (λ h. column n (modulo4 (reduced n hs P)) (pivot n h) ≡ 0) hs
    unfolding modulo4 columns column
    left-clear s = reduced-clear hs P s

    pub rows-cleared : Spread hs → Spread (map (cleared n (modulo4 (reduced n hs P))) hs)
    rows-cleared s = cleared-spread (modulo4 (reduced n hs P)) hs s (left-clear s)

    pub added-spread : Spread hs → Spread (added n hs P)
    added-spread s =
        let Q = modulo4 (reduced n hs P) in
        added-cases Spread (λ same. s)
        (λ new. inserted-spread Q (map (cleared n Q) hs) (rows-cleared s) (cleared-clear Q hs (left-clear s)))

    pub added-echelon : OnQubits hs → on_qubits n P ≡ true → Echelon hs → Echelon (added n hs P)
    unfolding modulo4 on_qubits
    added-echelon qs q e = record { pivots = pivots; spread = added-spread e.spread }
      where
        Q : Pauli
        Q = modulo4 (reduced n hs P)

        pivots : All HasPivot (added n hs P)
        pivots =
            added-cases (All HasPivot) (λ same. e.pivots)
            (λ new. (all_inserted HasPivot Q (map (cleared n Q) hs)).1 (
              has-pivot n Q (reduced-on-qubits hs P qs q) new,
              cleared-pivots Q hs e.pivots (left-clear e.spread),
            ))

    pub added-length : same_masks (reduced n hs P) identity ≡ false → length (added n hs P) ≡ suc (length hs)
    unfolding added
    added-length new = let Q = modulo4 (reduced n hs P) in
        rw (modulo4-masks, new) (length_inserted Q (map (cleared n Q) hs) ∙ ap suc (length-map hs (cleared n Q)))
