-- An admitted code that is written is read and admitted again: what is read has the phases modulo 4, and no check
-- sees the difference, since products, commuting and the group are the same of rows with phases modulo 4.
use Rattle.std.specs.Prelude.{Option}
use mathlib.Core.Bool.{true, ◌&&◌}
use mathlib.Core.List.{List, [], ◌∷◌, ◌++◌, map, map-append, append-nil}
use mathlib.Core.Path.{◌≡◌, refl, ap, ap₂, sym, fun_ext, ◌∙◌}
use Prim.Native.Nat.{ℕ, zero, suc, ◌+◌, ◌/◌, ◌≤◌}
use native.Mathlib.Omega.{arith}
use lib.ListN.{length, take, length-map}
use Rattle.pauli.specs.declared.Pauli.{Pauli}
use Rattle.pauli.specs.Letters.{of_letters}
use Rattle.letters.specs.Lists.{any_of, all_of, first_of}
use Rattle.pauli.specs.Order.{strings_up_to}
use Rattle.pauli.specs.Product.{product, symplectic, commutes, anticommutes, weight, same_masks, modulo4}
use Rattle.pauli.proofs.Modulo.{same-remainder}
use Rattle.pauli.proofs.Product.{same_parts}
use Rattle.code_record.specs.declared.Code.{Code}
use Rattle.refusals.specs.declared.Refusal.{Refusal}
use Rattle.code_record.specs.Record.{generators, logical_count, logical_xs, logical_zs, generators_at, logicals_at}
use Rattle.code_record.specs.Record.{claim_at}
use Rattle.code_record.specs.Record.{longest_input, within_limits, Sized}
use Rattle.refusals.specs.Refusals.{◌then◌}
use Rattle.code_record.proofs.Limits.{all_first}
use Rattle.sheet.specs.Reader.{got, continue, read_form, nothing_behind}
use Rattle.sheet.specs.Statements.{phases_modulo4}
use Rattle.sheet.specs.Writer.{sheet_text}
use Rattle.sheet.proofs.Lengths.{sheet_text-le}
use Rattle.sheet.proofs.WrittenRead.{read-after-write}
use Rattle.stabilizer.specs.Checks.{first_fault, clash, dependence, generator_fault}
use Rattle.stabilizer.specs.Group.{group, in_group_up_to_phase}
use Rattle.stabilizer.proofs.Tests.{any-map}
use Rattle.admission.specs.Admission.{fault_but_distance, code_fault, reading_of, checked, read_sheet}
use Rattle.admission.specs.Distance.{claimed_weight_fault, claimed_detected_fault, claimed_in_group_fault}
use Rattle.admission.specs.Distance.{is_logical_error, logical_error_up_to, distance_fault}
use Rattle.admission.specs.Logicals.{logicals, family_after, detected, pairs_wrongly, mispaired}
use Rattle.admission.specs.Logicals.{detected_fault, pairing_fault}
use Rattle.admission.specs.Statements.{AdmittedCodeReturns}

-- ---- Paulis and groups

product-modulo4 : (P Q : Pauli) → product (modulo4 P) Q ≡ product P Q
unfolding product modulo4
product-modulo4 P Q = same_parts _ _ (same-remainder 4 _ _ (P.p / 4) 0 (omega arith)) refl refl

products-modulo4 : (P : Pauli) → product (modulo4 P) ≡ product P
products-modulo4 P = fun_ext (product-modulo4 P)

group-modulo4 : (rows : List Pauli) → group (map modulo4 rows) ≡ group rows
unfolding group
group-modulo4 [] = refl
group-modulo4 (g ∷ rows) = ap₂ (λ f rest. rest ++ map f rest) (products-modulo4 g) (group-modulo4 rows)

any-modulo4 : (P : Pauli) (rows : List Pauli)
    → any_of (anticommutes (modulo4 P)) (map modulo4 rows) ≡ any_of (anticommutes P) rows
unfolding anticommutes commutes symplectic modulo4
any-modulo4 P rows = any-map (anticommutes (modulo4 P)) modulo4 rows

all-modulo4 : (P : Pauli) (rows : List Pauli) → all_of (commutes P) (map modulo4 rows) ≡ all_of (commutes P) rows
unfolding all_of commutes symplectic modulo4
all-modulo4 P [] = refl
all-modulo4 P (g ∷ rows) =
    all_first (commutes P) (modulo4 g) (map modulo4 rows) ∙ ap (λ b. commutes P g && b) (all-modulo4 P rows)
    ∙ sym (all_first (commutes P) g rows)

in-group-modulo4 : (rows : List Pauli) (P : Pauli) → in_group_up_to_phase (map modulo4 rows) P
    ≡ in_group_up_to_phase rows P
unfolding in_group_up_to_phase
in-group-modulo4 rows P = rw group-modulo4

logical-modulo4 : (rows : List Pauli) (P : Pauli) → is_logical_error (map modulo4 rows) P ≡ is_logical_error rows P
unfolding is_logical_error
logical-modulo4 rows P = rw (all-modulo4, in-group-modulo4)

-- ---- checks along rows

first-modulo4 : (check check' : List Pauli → ℕ → Pauli → Option Refusal)
    → ((before : List Pauli) (at : ℕ) (P : Pauli) → check (map modulo4 before) at (modulo4 P) ≡ check' before at P)
    → (before : List Pauli) (at : ℕ) (rows : List Pauli)
    → first_fault check (map modulo4 before) at (map modulo4 rows) ≡ first_fault check' before at rows
unfolding first_fault
first-modulo4 check check' same before at [] = refl
first-modulo4 check check' same before at (P ∷ rows) =
    ap₂ ◌then◌ (same before at P)
    (ap (λ b. first_fault check b (at + 1) (map modulo4 rows)) (sym (map-append modulo4 before (P ∷ [])))
    ∙ first-modulo4 check check' same (before ++ P ∷ []) (at + 1) rows)

clash-modulo4 : (before : List Pauli) (at : ℕ) (P : Pauli)
    → clash (map modulo4 before) at (modulo4 P) ≡ clash before at P
unfolding clash
clash-modulo4 before at P = rw any-modulo4

dependence-modulo4 : (before : List Pauli) (at : ℕ) (P : Pauli)
    → dependence (map modulo4 before) at (modulo4 P) ≡ dependence before at P
unfolding dependence
dependence-modulo4 before at P = rw (group-modulo4, products-modulo4)

generators-modulo4 : (at : ℕ) (rows : List Pauli) → generator_fault at (map modulo4 rows) ≡ generator_fault at rows
unfolding generator_fault
generators-modulo4 at rows =
    ap₂ ◌then◌ (first-modulo4 clash clash clash-modulo4 [] at rows)
    (first-modulo4 dependence dependence dependence-modulo4 [] at rows)

pairs-modulo4 : (k m j : ℕ) (earlier : List Pauli) (P : Pauli)
    → pairs_wrongly k m j (map modulo4 earlier) (modulo4 P) ≡ pairs_wrongly k m j earlier P
unfolding pairs_wrongly anticommutes commutes symplectic modulo4
pairs-modulo4 k m j [] P = refl
pairs-modulo4 k m j (Q ∷ earlier) P = rw (pairs-modulo4 k m (suc j) earlier P)

-- ---- the checks of a record

take-modulo4 : (m : ℕ) (rows : List Pauli) → take m (map modulo4 rows) ≡ map modulo4 (take m rows)
take-modulo4 zero rows = refl
take-modulo4 (suc m) [] = refl
take-modulo4 (suc m) (P ∷ rows) = ap (λ ps. modulo4 P ∷ ps) (take-modulo4 m rows)

-- The record with its phases brought to 0 to 3.
module _ (c : Code) where
  abbrev low : Code
  low = phases_modulo4 c

  generators-low : generators low ≡ map modulo4 (generators c)
  unfolding phases_modulo4 generators
  generators-low = take-modulo4 c.r c.g

  logicals-low : logicals low ≡ map modulo4 (logicals c)
  unfolding phases_modulo4 logicals logical_xs logical_zs logical_count
  logicals-low =
      ap₂ ◌++◌ (take-modulo4 (logical_count c) c.x) (take-modulo4 (logical_count c) c.z)
      ∙ sym (map-append modulo4 (logical_xs c) (logical_zs c))

  detected-low : (before : List Pauli) (at : ℕ) (P : Pauli)
      → detected low (map modulo4 before) at (modulo4 P) ≡ detected c before at P
  unfolding phases_modulo4 logical_count detected family_after
  detected-low before at P = rw (generators-low, any-modulo4, length-map)

  mispaired-low : (before : List Pauli) (at : ℕ) (P : Pauli)
      → mispaired low (map modulo4 before) at (modulo4 P) ≡ mispaired c before at P
  unfolding phases_modulo4 logical_count mispaired family_after
  mispaired-low before at P = rw (length-map, pairs-modulo4)

  detected-fault-low : detected_fault low ≡ detected_fault c
  unfolding detected_fault generators_at logicals_at phases_modulo4
  detected-fault-low =
      rw logicals-low (first-modulo4 (detected low) (detected c) detected-low [] (logicals_at c) (logicals c))

  pairing-fault-low : pairing_fault low ≡ pairing_fault c
  unfolding pairing_fault generators_at logicals_at phases_modulo4
  pairing-fault-low =
      rw logicals-low (first-modulo4 (mispaired low) (mispaired c) mispaired-low [] (logicals_at c) (logicals c))

  claimed-weight-low : (at : ℕ) → claimed_weight_fault at low ≡ claimed_weight_fault at c
  unfolding claimed_weight_fault weight modulo4 phases_modulo4
  claimed-weight-low at = refl

  claimed-detected-low : (at : ℕ) → claimed_detected_fault at low ≡ claimed_detected_fault at c
  unfolding claimed_detected_fault phases_modulo4
  claimed-detected-low at = rw (generators-low, any-modulo4)

  claimed_in-group-low : (at : ℕ) → claimed_in_group_fault at low ≡ claimed_in_group_fault at c
  unfolding claimed_in_group_fault in_group_up_to_phase same_masks modulo4 phases_modulo4
  claimed_in-group-low at = rw (generators-low, group-modulo4)

  search-low : (v : ℕ) → logical_error_up_to low v ≡ logical_error_up_to c v
  unfolding logical_error_up_to phases_modulo4
  search-low v =
      ap (λ test. first_of test (strings_up_to c.n v))
      (fun_ext λ s. let P = of_letters s in
      ap (λ rows. is_logical_error rows P) generators-low ∙ logical-modulo4 (generators c) P)

  distance-low : (at : ℕ) → distance_fault at low ≡ distance_fault at c
  unfolding distance_fault phases_modulo4
  distance-low at = rw search-low

  code-fault-low : (at : ℕ) → code_fault at low ≡ code_fault at c
  unfolding code_fault fault_but_distance generators_at
  code-fault-low at =
      rw (
        generators-low,
        generators-modulo4,
        detected-fault-low,
        pairing-fault-low,
        claimed-weight-low,
        claimed-detected-low,
        claimed_in-group-low,
        distance-low,
      )

  -- ---- written and read

  written-form : Sized c → within_limits c ≡ true
      → read_form (sheet_text c) ≡ got (record { code = low; claim_at = claim_at c }) []
  unfolding read_form continue nothing_behind
  written-form sized within =
      let few = sheet_text-le c sized within in
      let short : length (sheet_text c ++ []) ≤ longest_input = rw append-nil (omega arith) in
      rw (rw append-nil at (read-after-write c [] sized within short))

pub admitted-code-returns : AdmittedCodeReturns
unfolding read_sheet checked reading_of
admitted-code-returns c sized within faultless = rw (written-form c sized within, code-fault-low c, faultless)
