-- 7 and 8 are found at the first row that reduces to I by the rows before it, and there the elimination stops. Where it
-- stops behind the last row, there is no fault.
use Rattle.std.specs.Prelude.{Some, Result, Ok, Err}
use mathlib.Core.Bool.{true}
use mathlib.Core.List.{List, []}
use mathlib.Core.Path.{◌≡◌, refl, ap, ap₂, sym, ◌∙◌}
use Prim.Native.Nat.{ℕ, ◌+◌, ◌<◌, ◌≤◌}
use native.Mathlib.Omega.{arith}
use lib.ListN.{length, take, get_or}
use Rattle.pauli.specs.declared.Pauli.{Pauli}
use Rattle.pauli.specs.Product.{identity, same_masks}
use Rattle.refusals.specs.declared.Refusal.{Refusal}
use Rattle.code_record.specs.Record.{row_room, first_generator_at, is_row}
use Rattle.record_limits.proofs.GeneratorLimits.{GeneratorLimits, generator-limits}
use Rattle.stabilizer.specs.Canonical.{reduced, reduces_to_identity, canonical_generators}
use Rattle.stabilizer.specs.Checks.{first_fault, dependence}
use Rattle.stabilizer.proofs.All.{all-of}
use Rattle.stabilizer.proofs.Faults.{clash-free-commuting}
use Rattle.stabilizer.proofs.Generated.{whole, Commuting}
use Rattle.stabilizer.proofs.StabilizerRows.{Rows}
use Rattle.reduced_rows.specs.declared.Kind.{Kind}
use Rattle.reduced_rows.specs.declared.ReducedRows.{ReducedRows}
use Rattle.reduced_rows.specs.RowKinds.{kind_of}
use Rattle.reduced_rows.specs.Rows.{rows_in, reduced_of}
use Rattle.reduced_rows.proofs.Rows.{rows_of}
use Rattle.independent_rows.specs.Rows.{independent_rows}
use Rattle.elimination.proofs.Steps.{kind_fault, not-minus, Stopped, stopped, stopped-count, stepped-end}
use Rattle.elimination.proofs.Steps.{rest, stepped-fault}
use borrow.Author.Rules.{rules}
use Rattle.elimination.proofs.dependence_of.Statement.{statement}
use Rattle.elimination.proofs.dependence_of.Tie as tie

-- ---- the rows
module _ (c : tie.Start) where
  abbrev hs : ReducedRows
  hs = c.args.reduced

  abbrev n : ℕ
  n = hs.n

  abbrev r : ℕ
  r = c.args.r

  abbrev g : List Pauli
  g = c.args.g

  are-within : GeneratorLimits n r g
  are-within = generator-limits n r g c.requires.0

  room : (r ≤ length g) × (r < row_room)
  room =
      let sized : length g ≡ row_room = search rules in
      omega (arith, sized, are-within.qubits, are-within.count)

  are-rows : Rows n (take r g)
  are-rows = (all-of (is_row n) (take r g)).0 are-within.rows

  commuting : Commuting whole (take r g)
  commuting = clash-free-commuting first_generator_at (take r g) c.requires.1.0

  -- Where the elimination stops.
  stop : Stopped n first_generator_at g r room.0 are-rows commuting (independent_rows n [] (take r g))
  stop = stopped n first_generator_at g r room.0 are-rows commuting

  rows_are : hs ≡ reduced_of n (canonical_generators n (take stop.place g))
  rows_are = c.requires.1.1 ∙ ap (reduced_of n) stop.held

  count-is : hs.count ≡ stop.place
  unfolding reduced_of
  count-is =
      ap (λ q. q.count) c.requires.1.1
      ∙ stopped-count n first_generator_at g r room.0 are-rows commuting stop

-- ---- at the row that depends on those before it
module _ (c : tie.Else-place-r) where
  abbrev start : tie.Start
  start = c.before

  few : (stop start).place < r start
  few = omega (arith, c.if-place-r.false, count-is start, (stop start).within)

  small : ((hs start).count < row_room) × ((hs start).count < 32)
  small = omega (arith, few, room start, count-is start)

module _ (c : tie.After-kind_of) where
  abbrev other : tie.Else-place-r
  other = c.before.before.before

  abbrev row : tie.Start
  row = start other

  abbrev left : Pauli
  left = rest (n row) first_generator_at (g row) (r row) (room row).0 (are-rows row) (commuting row)
      (stop row).stepped (few other)

  left_is : c.reduce.result ≡ left
  unfolding reduced_of
  left_is =
      c.reduce.ensures
      ∙ ap₂ (λ q (i : ℕ). reduced q.n (rows_in q) (get_or (g row) i identity)) (rows_are row) (count-is row)
      ∙ ap (λ hs. reduced (n row) hs (get_or (g row) (stop row).place identity))
      (rows_of (n row) (canonical_generators (n row) (take (stop row).place (g row))))

  told : c.kind_of.result ≡ kind_of left
  told = c.kind_of.ensures ∙ ap kind_of left_is

  phase : same_masks left identity ≡ true
  unfolding reduces_to_identity
  phase = (stop row).stops (few other)

  faulty : {kind : Kind} {refusal : Refusal} → kind_of left ≡ kind
      → kind_fault (first_generator_at + (hs row).count) kind ≡ Some refusal
      → Some refusal ≡ first_fault dependence [] first_generator_at (take (r row) (g row))
  faulty {kind} e f =
      stepped-fault (n row) first_generator_at (g row) (r row) (room row).0 (are-rows row) (commuting row)
      (stop row).stepped (few other) e
      (ap (λ (place : ℕ). kind_fault (first_generator_at + place) kind) (sym (count-is row)) ∙ f)

-- ---- the needs
not-passed : {A : Type 0} {refusal : Refusal} → ◌≡◌ {A = Result Unit Refusal} (Err refusal) (Ok tt) → A
not-passed e = absurd (let z : ◌≡◌ {A = ℕ} 0 1 = cc e in omega arith)

returns : tie.Need-returns-then-place-r
returns c =
    let s = c.before in
    let all : (stop s).place ≡ r s = sym (count-is s) ∙ c.if-place-r.true in (
      stepped-end (n s) first_generator_at (g s) (r s) (stop s).stepped (omega (arith, all)),
      λ e. rows_are s ∙ ap (λ (i : ℕ). reduced_of (n s) (canonical_generators (n s) (take i (g s)))) all,
    )

returns-2 : tie.Need-returns-in_default
returns-2 c =
    let kind = c.before in
    (faulty kind (not-minus (left kind) (phase kind) (told kind) c.in_default.in_default-own.keys2) refl, not-passed)

returns-3 : tie.Need-returns-in-MinusIdentity
returns-3 c =
    let kind = c.before in
    (faulty kind (sym (told kind) ∙ c.in-MinusIdentity.is) refl, not-passed)

pub dependence_of_spec : {M : Type 1} → statement M
dependence_of_spec =
    tie.close
    (tie.spec returns (λ c. record { fits = omega (arith, small c) })
    (λ c. record { fits = omega (arith, small c) }) (λ c. (small c).1) (λ c κs. search rules) (λ c κs. search rules)
    (λ c. search rules) returns-3 returns-2)
