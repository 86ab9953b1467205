-- 7 and 8, row by row: the canonical generators of the rows so far, which are independent, tell what the next row is.
use Rattle.std.specs.Prelude.{Option, Some, None}
use mathlib.Core.Bool.{Bool, true, false, cond, false≢true}
use mathlib.Core.List.{List, [], ◌∷◌}
use mathlib.Core.Logic.{inl}
use mathlib.Core.Path.{◌≡◌, refl, ap, sym, subst, ◌∙◌}
use Prim.Native.Nat.{ℕ, zero, suc, ◌+◌, ◌<◌, ◌≤◌}
use native.Mathlib.Omega.{arith}
use lib.ListN.{length, take, drop, get_or, length-take}
use lib.Seq.{get_or-take}
use denote.Enum.Declared.{tag_of}
use types.Run.{OneOf, miss}
use Rattle.pauli.specs.declared.Pauli.{Pauli}
use Rattle.pauli.specs.Product.{identity, same_masks, same_pauli}
use Rattle.refusals.specs.declared.Family.{Family}
use Rattle.refusals.specs.declared.Refusal.{Refusal}
use Rattle.code_record.specs.Record.{is_row}
use Rattle.refusals.specs.Refusals.{◌then◌}
use Rattle.stabilizer.specs.Canonical.{reduced, reduces_to_identity, added, canonical_generators}
use Rattle.stabilizer.specs.Checks.{minus_identity, first_fault, dependence}
use Rattle.stabilizer.proofs.All.{All, all-at, all-places}
use Rattle.stabilizer.proofs.FirstRows.{taken_at, taken-end}
use Rattle.stabilizer.proofs.Faults.{reduced_fault, dependence-reduced}
use Rattle.stabilizer.proofs.Generated.{whole, Commute, Commuting}
use Rattle.stabilizer.proofs.Independent.{Independent, independent-none, independent-more}
use Rattle.stabilizer.proofs.StabilizerRows.{Rows}
use Rattle.stabilizer.proofs.Reduction.{canonical-more}
use Rattle.stabilizer.proofs.Walk.{Left, taken_more, fault-start, fault-at, fault-end}
use Rattle.reduced_rows.specs.declared.Kind.{Kind}
use Rattle.reduced_rows.specs.declared.Kind.TheVariants.{Independent as IsIndependent, PlusIdentity, MinusIdentity}
use Rattle.reduced_rows.specs.contracts.Kind.{the_type}
use Rattle.reduced_rows.specs.RowKinds.{kind_of}
use Rattle.reduced_rows.proofs.RowKinds.{kind-independent}
use Rattle.independent_rows.specs.Rows.{independent_rows}
use Rattle.independent_rows.proofs.Added.{ends-here, goes_on}

-- ---- the fault of a kind

abbrev pub kind_fault : ℕ → Kind → Option Refusal
kind_fault at IsIndependent = None
kind_fault at PlusIdentity = Some (Refusal.DependentGenerator at Family.Generator)
kind_fault at MinusIdentity = Some (Refusal.MinusIdentity at Family.Generator)

kind-fault : (at : ℕ) (Q : Pauli) → reduced_fault at Q ≡ kind_fault at (kind_of Q)
unfolding reduced_fault kind_of
kind-fault at Q = by (same_masks Q identity) (same_pauli minus_identity Q)
  where
    by : (None? minus? : Bool)
        → cond None?
        (Some (cond minus? (Refusal.MinusIdentity at Family.Generator)
        (Refusal.DependentGenerator at Family.Generator))) None
        ≡ kind_fault at (cond None? (cond minus? MinusIdentity PlusIdentity) IsIndependent)
    by true true = refl
    by true false = refl
    by false minus? = refl

-- A row of which nothing but a phase is left is I with a sign: + where it is not -.
pub not-minus : (Q : Pauli) → same_masks Q identity ≡ true → {kind : Kind} → kind ≡ kind_of Q
    → OneOf (0 ∷ 1 ∷ []) (tag_of the_type kind) → kind_of Q ≡ PlusIdentity
unfolding kind_of
not-minus Q phase {kind} told other = by (same_masks Q identity) (same_pauli minus_identity Q) phase told
  where
    by : (None? minus? : Bool) → None? ≡ true
        → kind ≡ cond None? (cond minus? MinusIdentity PlusIdentity) IsIndependent
        → cond None? (cond minus? MinusIdentity PlusIdentity) IsIndependent ≡ PlusIdentity
    by true true e told =
        absurd (miss (0 ∷ 1 ∷ []) 2 tt (subst (λ k. OneOf (0 ∷ 1 ∷ []) (tag_of the_type k)) told other))
    by true false e told = refl
    by false minus? e told = absurd (false≢true e)

-- ---- the first rows of an array

all-taken : (S : Pauli → Type 0) (rows : List Pauli) (count place : ℕ) → place ≤ count → count ≤ length rows
    → All S (take count rows) → All S (take place rows)
all-taken S rows count place few room all = all-places S identity (take place rows) at
  where
    at : (i : ℕ) → i < length (take place rows) → S (get_or (take place rows) i identity)
    at i h =
        let short : i < place = omega (arith, length-take place rows) in
        subst S (get_or-take count rows i identity (omega arith) ∙ sym (get_or-take place rows i identity short))
        (all-at S identity (take count rows) all i (omega (arith, length-take count rows)))

-- `line` is the line of the first row.
module _ (n line : ℕ) (rows : List Pauli) (count : ℕ) where
  -- The first `place` of them are independent; and what 7 and 8 find behind them.
  pub record Stepped (place : ℕ) : Type 0 where
    pub independent : Independent n (take place rows)
    pub left : Left dependence rows count place line ≡ first_fault dependence [] line (take count rows)

  stepped-none : Stepped 0
  stepped-none = record { independent = independent-none n; left = fault-start dependence rows count 0 line refl }

  pub stepped-end : {place : ℕ} → Stepped place → count ≤ place
      → None ≡ first_fault dependence [] line (take count rows)
  stepped-end {place} s end = sym (fault-end dependence rows count place line (inl end)) ∙ s.left

  -- The rows are of n qubits and commute.
  module _ (room : count ≤ length rows) (are_rows : Rows n (take count rows))
      (commuting : Commuting whole (take count rows)) where
    -- One row more.
    module _ {place : ℕ} (s : Stepped place) (few : place < count) where
      inside : place < length rows
      inside = omega arith

      -- What holds of all the rows holds of this one.
      this : (S : Pauli → Type 0) → All S (take count rows) → S (get_or rows place identity)
      this S all =
          subst S (get_or-take count rows place identity few)
          (all-at S identity (take count rows) all place (omega (arith, length-take count rows)))

      row : is_row n (get_or rows place identity) ≡ true
      row = this (λ R. is_row n R ≡ true) are_rows

      commutes-before : All (Commute whole (get_or rows place identity)) (take place rows)
      commutes-before =
          all-taken (Commute whole (get_or rows place identity)) rows count place (omega arith) room
          (this (λ R. All (Commute whole R) (take count rows)) commuting)

      -- What is left of it.
      abbrev pub rest : Pauli
      rest = reduced n (canonical_generators n (take place rows)) (get_or rows place identity)

      -- What is found from here on.
      found : {kind : Kind} → kind_of rest ≡ kind
          → (kind_fault (line + place) kind then Left dependence rows count (place + 1) line)
          ≡ first_fault dependence [] line (take count rows)
      found e =
          ap (λ k. kind_fault (line + place) k then Left dependence rows count (place + 1) line) (sym e)
          ∙ ap (λ f. f then Left dependence rows count (place + 1) line)
          (sym (dependence-reduced n (take place rows) (line + place) (get_or rows place identity)
          s.independent.stabilizer row ∙ kind-fault (line + place) rest))
          ∙ sym (fault-at dependence rows count place line few inside) ∙ s.left

      pub stepped-fault : {kind : Kind} {refusal : Refusal} → kind_of rest ≡ kind
          → kind_fault (line + place) kind ≡ Some refusal
          → Some refusal ≡ first_fault dependence [] line (take count rows)
      unfolding ◌then◌
      stepped-fault e f = ap (λ fault. fault then Left dependence rows count (place + 1) line) (sym f) ∙ found e

      stepped-more : same_masks rest identity ≡ false → Stepped (place + 1)
      unfolding ◌then◌ reduces_to_identity
      stepped-more new =
          record {
            independent =
                subst (Independent n) (taken_more rows place inside)
                (independent-more n (take place rows) (get_or rows place identity) s.independent row commutes-before
                new);
            left = found (sym (kind-independent rest new));
          }

    -- Where the elimination stops: behind the last row, or at the first of which nothing but a phase is left.
    pub record Stopped (hs : List Pauli) : Type 0 where
      pub place : ℕ
      pub within : place ≤ count
      pub held : hs ≡ canonical_generators n (take place rows)
      pub stepped : Stepped place
      pub stops : place < count
          → reduces_to_identity n (canonical_generators n (take place rows)) (get_or rows place identity) ≡ true

    -- One row more, with what is made of the rows behind it.
    module _ (place : ℕ) (s : Stepped place) (few : place < count) where
      abbrev hs : List Pauli
      hs = canonical_generators n (take place rows)

      abbrev P : Pauli
      P = get_or rows place identity

      abbrev others : List Pauli
      others = drop (place + 1) (take count rows)

      here : drop place (take count rows) ≡ P ∷ others
      here = taken_at rows count place few (omega arith)

      longer : added n hs P ≡ canonical_generators n (take (place + 1) rows)
      longer =
          sym (canonical-more n (take place rows) P)
          ∙ ap (canonical_generators n) (taken_more rows place (omega arith))

      by_row : (t : Bool) → reduces_to_identity n hs P ≡ t
          → (Stepped (place + 1) → Stopped (independent_rows n (canonical_generators n (take (place + 1) rows)) others))
          → Stopped (independent_rows n hs (drop place (take count rows)))
      unfolding reduces_to_identity
      by_row true phase go =
          subst Stopped (sym (ap (independent_rows n hs) here ∙ ends-here n hs P others phase))
          (record { place = place; within = omega arith; held = refl; stepped = s; stops = λ few. phase })
      by_row false new go =
          subst Stopped
          (sym (ap (independent_rows n hs) here ∙ goes_on n hs P others new
          ∙ ap (λ hs. independent_rows n hs others) longer))
          (go (stepped-more s few new))

    stopped-from : (more place : ℕ) → place + more ≡ count → Stepped place
        → Stopped (independent_rows n (canonical_generators n (take place rows)) (drop place (take count rows)))
    unfolding independent_rows
    stopped-from zero place e s =
        subst Stopped
        (sym (ap (independent_rows n (canonical_generators n (take place rows)))
        (taken-end rows count place (inl (omega arith)))))
        (record { place = place; within = omega arith; held = refl; stepped = s; stops = λ few. absurd (omega arith) })
    stopped-from (suc more) place e s =
        by_row place s (omega arith)
        (reduces_to_identity n (canonical_generators n (take place rows)) (get_or rows place identity)) refl
        (stopped-from more (place + 1) (omega arith))

    pub stopped : Stopped (independent_rows n [] (take count rows))
    unfolding canonical_generators
    stopped = stopped-from count 0 (omega arith) stepped-none

    -- The array has as many rows as were passed.
    pub stopped-count : {hs : List Pauli} (s : Stopped hs) → length hs ≡ s.place
    stopped-count s =
        ap length s.held ∙ omega (arith, s.stepped.independent.count, length-take s.place rows, s.within)
