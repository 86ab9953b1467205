-- A row q is put in its place among rows, in the array that has them. From the front they are cleared by q; then those
-- whose pivots come behind its own move up, from the last, and leave a place for it. That is the first place with a
-- pivot behind its own, since the pivots rise.
use mathlib.Core.List.{List, [], ◌∷◌, ◌++◌, map, append_assoc}
use mathlib.Core.Path.{◌≡◌, refl, ap, ap₂, sym, ◌∙◌}
use Prim.Native.Nat.{ℕ, zero, suc, ◌+◌, ◌-◌, ◌<◌, ◌≤◌}
use native.Mathlib.Decide.{dec_lt}
use native.Mathlib.Numerals.{add-one}
use native.Mathlib.Omega.{arith}
use lib.ListN.{length, take, drop, set, get_or, replicate, length-append, length-map, take-append-drop}
use lib.Seq.{take-length, drop-length}
use Rattle.pauli.specs.declared.Pauli.{Pauli}
use Rattle.pauli.specs.Product.{identity}
use Rattle.code_record.specs.Record.{row_room, filled}
use Rattle.stabilizer.specs.Canonical.{pivot, cleared, insert_by_pivot}
use Rattle.stabilizer.proofs.Echelon.{Spread, apart-at, inserted-cases}
use Rattle.reduced_rows.specs.declared.ReducedRows.{ReducedRows}
use Rattle.reduced_rows.specs.Rows.{rows_in, reduced_of}
use Rattle.reduced_rows.proofs.Rows.{value, rows_of}

-- ---- the array while the rows are cleared

module _ (f : Pauli → Pauli) (behind : List Pauli) where
  -- f was applied to the rows before a place.
  abbrev changed : ℕ → List Pauli → List Pauli
  changed at rows = (map f (take at rows) ++ drop at rows) ++ behind

  changed-read : (rows : List Pauli) (at : ℕ) → at < length rows
      → get_or (changed at rows) at identity ≡ get_or rows at identity
  changed-read [] at few = absurd (omega arith)
  changed-read (h ∷ rows) zero few = refl
  changed-read (h ∷ rows) (suc at) few = changed-read rows at (omega arith)

  changed-more : (rows : List Pauli) (at : ℕ) → at < length rows
      → set (changed at rows) at (f (get_or rows at identity)) ≡ changed (suc at) rows
  changed-more [] at few = absurd (omega arith)
  changed-more (h ∷ rows) zero few = refl
  changed-more (h ∷ rows) (suc at) few = ap (λ l. f h ∷ l) (changed-more rows at (omega arith))

  changed-all : (rows : List Pauli) → changed (length rows) rows ≡ map f rows ++ behind
  changed-all [] = refl
  changed-all (h ∷ rows) = ap (λ l. f h ∷ l) (changed-all rows)

module _ (n : ℕ) (q : Pauli) (rows : List Pauli) (size : ℕ) where
  pub record Clearing (at : ℕ) (hs : ReducedRows) : Type 0 where
    pub few : size < row_room
    pub sized : length rows ≡ size
    pub within : at ≤ size
    pub held : hs
        ≡ value n (length rows) (changed (cleared n q) (replicate (row_room - length rows) identity) at rows)

  pub clearing-none : {hs : ReducedRows} → size < row_room → length rows ≡ size → hs ≡ reduced_of n rows → Clearing 0 hs
  unfolding reduced_of filled
  clearing-none few sized e = record { few = few; sized = sized; within = omega arith; held = e }

  module _ {at : ℕ} {hs : ReducedRows} (c : Clearing at hs) where
    pub clearing-more : at < size → {h : Pauli} → h ≡ cleared n q (get_or hs.rows at identity)
        → Clearing (at + 1) (value hs.n hs.count (set hs.rows at h))
    clearing-more more {h} own =
        let f = cleared n q in
        let behind = replicate (row_room - length rows) identity in
        let inside : at < length rows = omega (arith, c.sized) in
        let row : h ≡ f (get_or rows at identity) =
        own ∙ ap (λ r. f (get_or r.rows at identity)) c.held ∙ ap f (changed-read f behind rows at inside) in
        record {
          few = c.few;
          sized = c.sized;
          within = omega arith;
          held =
              ap₂ (λ r h. value r.n r.count (set r.rows at h)) c.held row
              ∙ ap (value n (length rows))
              (changed-more f behind rows at inside
              ∙ ap (λ (i : ℕ). changed f behind i rows) (sym (add-one at)));
        }

    clearing-end : size ≤ at → hs ≡ reduced_of n (map (cleared n q) rows)
    unfolding reduced_of filled
    clearing-end end =
        let f = cleared n q in
        let behind = replicate (row_room - length rows) identity in
        let all : at ≡ length rows = omega (arith, c.sized, c.within) in
        c.held
        ∙ ap (λ (i : ℕ). value n (length rows) (changed f behind i rows)) all
        ∙ ap (value n (length rows)) (changed-all f behind rows)
        ∙ ap (λ (size : ℕ). value n size (map f rows ++ replicate (row_room - size) identity)) (sym (length-map rows f))

    cleared-rows : size ≤ at → rows_in hs ≡ map (cleared n q) rows
    cleared-rows end = ap rows_in (clearing-end end) ∙ rows_of n (map (cleared n q) rows)

-- ---- the array while rows move up

module _ (behind : List Pauli) where
  -- A place of its own for a row.
  abbrev opened : ℕ → Pauli → List Pauli → List Pauli
  opened at x rows = (take at rows ++ x ∷ drop at rows) ++ behind

  opened-read : (x : Pauli) (rows : List Pauli) (at k : ℕ) → k < at → at ≤ length rows
      → get_or (opened at x rows) k identity ≡ get_or rows k identity
  opened-read x rows zero k l few = absurd (omega arith)
  opened-read x [] (suc at) k l few = absurd (omega arith)
  opened-read x (h ∷ rows) (suc at) zero l few = refl
  opened-read x (h ∷ rows) (suc at) (suc k) l few = opened-read x rows at k (omega arith) (omega arith)

  opened-put : (x y : Pauli) (rows : List Pauli) (at : ℕ) → at ≤ length rows
      → set (opened at x rows) at y ≡ opened at y rows
  opened-put x y rows zero few = refl
  opened-put x y [] (suc at) few = absurd (omega arith)
  opened-put x y (h ∷ rows) (suc at) few = ap (λ l. h ∷ l) (opened-put x y rows at (omega arith))

  -- The row before the place stands in it too: either of the two can be the one that moved.
  opened-moved : (rows : List Pauli) (k : ℕ) → k < length rows
      → opened (suc k) (get_or rows k identity) rows ≡ opened k (get_or rows k identity) rows
  opened-moved [] k few = absurd (omega arith)
  opened-moved (h ∷ rows) zero few = refl
  opened-moved (h ∷ rows) (suc k) few = ap (λ l. h ∷ l) (opened-moved rows k (omega arith))

-- The place of q: no pivot before it comes behind that of q, and the next one does.
inserted-at : (n : ℕ) (q : Pauli) (rows : List Pauli) (at : ℕ) → at ≤ length rows
    → ((k : ℕ) → k < at → pivot n (get_or rows k identity) ≤ pivot n q)
    → (at < length rows → pivot n q < pivot n (get_or rows at identity))
    → take at rows ++ q ∷ drop at rows ≡ insert_by_pivot n q rows
unfolding insert_by_pivot
inserted-at n q [] zero few before next = refl
inserted-at n q [] (suc at) few before next = absurd (omega arith)
inserted-at n q (h ∷ rows) zero few before next =
    inserted-cases n (λ l. q ∷ h ∷ rows ≡ l) q h rows (λ first. refl)
    (λ later. absurd (omega (arith, next (omega arith))))
inserted-at n q (h ∷ rows) (suc at) few before next =
    inserted-cases n (λ l. h ∷ (take at rows ++ q ∷ drop at rows) ≡ l) q h rows
    (λ first. absurd (omega (arith, before 0 (omega arith))))
    (λ later. ap (λ l. h ∷ l)
    (inserted-at n q rows at (omega arith) (λ k l. before (suc k) (omega arith)) (λ l. next (omega arith))))

module _ (n : ℕ) (q : Pauli) (rows : List Pauli) (size : ℕ) where
  abbrev behind : List Pauli
  behind = replicate (row_room - suc (length rows)) identity

  pub record Moving (at : ℕ) (hs : ReducedRows) : Type 0 where
    pub few : size < row_room
    pub sized : length rows ≡ size
    pub within : at ≤ size
    pub spare : Pauli
    pub held : hs ≡ value n (length rows) (opened behind at spare rows)
    pub next : at < size → pivot n q < pivot n (get_or rows at identity)

  -- At first the place is behind all rows.
  moving-none : {at : ℕ} {hs : ReducedRows} → size < row_room → length rows ≡ size → at ≡ size
      → hs ≡ reduced_of n rows → Moving at hs
  unfolding reduced_of filled
  moving-none {at} few sized last e =
      let room : row_room - length rows ≡ suc (row_room - suc (length rows)) = omega arith in
      let all : at ≡ length rows = omega arith in
      record {
        few = few;
        sized = sized;
        within = omega arith;
        spare = identity;
        held =
            e
            ∙ ap (value n (length rows))
            (ap (λ m. rows ++ replicate m identity) room
            ∙ sym (append_assoc rows (identity ∷ []) behind)
            ∙ ap₂ (λ front l. (front ++ identity ∷ l) ++ behind) (sym (take-length rows)) (sym (drop-length rows))
            ∙ ap (λ (i : ℕ). opened behind i identity rows) (sym all));
        next = λ l. absurd (omega arith);
      }

  module _ {at : ℕ} {hs : ReducedRows} (m : Moving at hs) where
    -- A row before the place.
    moving-read : {k : ℕ} → k < at → get_or hs.rows k identity ≡ get_or rows k identity
    moving-read {k} l =
        ap (λ r. get_or r.rows k identity) m.held
        ∙ opened-read behind m.spare rows at k l (omega (arith, m.sized, m.within))

    moving_put : (size : ℕ) (P : Pauli)
        → value hs.n size (set hs.rows at P) ≡ value n size (opened behind at P rows)
    moving_put size P =
        ap (λ r. value r.n size (set r.rows at P)) m.held
        ∙ ap (value n size) (opened-put behind m.spare P rows at (omega (arith, m.sized, m.within)))

    -- The row before the place moves up.
    pub moving-more : {first key : ℕ} → 0 < at → first ≡ pivot n q
        → key ≡ pivot n (get_or hs.rows (at - 1) identity) → first < key
        → Moving (at - 1) (value hs.n hs.count (set hs.rows at (get_or hs.rows (at - 1) identity)))
    moving-more some found read behind-it =
        let k = at - 1 in
        let up : at ≡ suc k = omega arith in
        let inside : k < length rows = omega (arith, m.sized, m.within) in
        let row = moving-read {k = k} (omega arith) in
        record {
          few = m.few;
          sized = m.sized;
          within = omega (arith, m.within);
          spare = get_or rows k identity;
          held =
              ap₂ (λ (count : ℕ) P. value hs.n count (set hs.rows at P)) (ap (λ r. r.count) m.held) row
              ∙ moving_put (length rows) (get_or rows k identity)
              ∙ ap (λ (i : ℕ). value n (length rows) (opened behind i (get_or rows k identity) rows)) up
              ∙ ap (value n (length rows)) (opened-moved behind rows k inside);
          next = λ l. omega (arith, read ∙ ap (pivot n) row);
        }

    -- Where the row before the place stays, q is put there.
    moving-end : Spread n rows → (0 < at → pivot n (get_or hs.rows (at - 1) identity) ≤ pivot n q)
        → value hs.n (size + 1) (set hs.rows at q) ≡ reduced_of n (insert_by_pivot n q rows)
    unfolding reduced_of filled
    moving-end spread stays =
        let with-q = take at rows ++ q ∷ drop at rows in
        let longer : suc (length rows) ≡ length with-q =
        omega (
          arith,
          length-append (take at rows) (q ∷ drop at rows),
          length-append (take at rows) (drop at rows),
          ap length (take-append-drop at rows),
        ) in
        moving_put (size + 1) q
        ∙ ap₂ (λ (count used : ℕ). value n count (with-q ++ replicate (row_room - used) identity))
        (omega (arith, m.sized)) longer
        ∙ ap (reduced_of n)
        (inserted-at n q rows at (omega (arith, m.sized, m.within)) before (λ l. m.next (omega (arith, m.sized))))
      where
        before : (k : ℕ) → k < at → pivot n (get_or rows k identity) ≤ pivot n q
        before k l =
            let last : pivot n (get_or rows (at - 1) identity) ≤ pivot n q =
            omega (arith, stays (omega arith), ap (pivot n) (moving-read {k = at - 1} (omega arith))) in
            elim (dec_lt k (at - 1)) [
              | yes b ↦
                  omega (arith, (apart-at n rows spread k (at - 1) b (omega (arith, m.sized, m.within))).ordered)
              | no b ↦
                  let same : k ≡ at - 1 = omega arith in
                  omega (arith, ap (λ (i : ℕ). pivot n (get_or rows i identity)) same)
            ]

-- ---- one after the other

module _ {n : ℕ} {q : Pauli} {rows : List Pauli} {size at : ℕ} {hs : ReducedRows} (c : Clearing n q rows size at hs)
    (end : size ≤ at) where
  pub cleared-moving : Moving n q (rows_in hs) size size hs
  cleared-moving =
      let own = cleared-rows n q rows size c end in
      moving-none n q (rows_in hs) size c.few (ap length own ∙ length-map rows (cleared n q) ∙ c.sized) refl
      (clearing-end n q rows size c end ∙ ap (reduced_of n) (sym own))

  pub placed : {place : ℕ} {moved : ReducedRows} → Moving n q (rows_in hs) size place moved
      → Spread n (map (cleared n q) rows) → (0 < place → pivot n (get_or moved.rows (place - 1) identity) ≤ pivot n q)
      → value moved.n (size + 1) (set moved.rows place q)
      ≡ reduced_of n (insert_by_pivot n q (map (cleared n q) rows))
  placed m spread stays =
      let own = cleared-rows n q rows size c end in
      moving-end n q (rows_in hs) size m (rw own spread) stays
      ∙ ap (λ rows. reduced_of n (insert_by_pivot n q rows)) own
