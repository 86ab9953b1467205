-- What is stated of the group and of canonical generators.
use Rattle.std.specs.Prelude.{Some, None}
use Rattle.std.specs.Result.{result_err}
use Rattle.std.specs.Prelude.{true, false, List, [], ◌∷◌, ◌++◌, ◌↔◌, ◌≡◌, ℕ, ◌^◌, ◌≤◌, ◌<◌, eqb, ltb, length, get_or}
use Rattle.std.specs.Int.Bits.{bit_xor}
use Rattle.pauli.specs.declared.Pauli.{Pauli}
use Rattle.letters.specs.Lists.{any_of, all_of}
use Rattle.letters.specs.declared.Sign.{Sign}
use Rattle.pauli.specs.Letters.{row_of, is_signed_row}
use Rattle.pauli.specs.Product.{identity, product, commutes, same_pauli}
use Rattle.code_record.specs.declared.Code.{Code}
use Rattle.refusals.specs.declared.Refusal.{Refusal}
use Rattle.code_record.specs.Record.{is_row, on_qubits}
use Rattle.sheet.specs.Statements.{RefusalLeaves, Among}
use Rattle.stabilizer.specs.Group.{InGroup, group, InGroupUpToPhase, in_group_up_to_phase, member_sign}
use Rattle.stabilizer.specs.Checks.{minus_identity, generator_fault, group_fault}
use Rattle.stabilizer.specs.Canonical.{ReducedEchelon, IsCanonical, reduced, reduces_to_identity}
use Rattle.stabilizer.specs.Canonical.{remainder_word, canonical_generators, write_canonical}

-- The list of the group has its members, signs included.
abbrev pub GroupIsListed : Type 0
GroupIsListed = (rows : List Pauli) (P : Pauli) → (any_of (same_pauli P) (group rows) ≡ true) ↔ InGroup rows P

-- The test for a member is right: some selection's product has these masks.
abbrev pub MembershipIsDecided : Type 0
MembershipIsDecided = (rows : List Pauli) (P : Pauli) → (in_group_up_to_phase rows P ≡ true) ↔ InGroupUpToPhase rows P

-- Any two of the rows commute.
abbrev pub Commuting : List Pauli → Type 0
Commuting rows = (i j : ℕ) → i < length rows → j < length rows
    → commutes (get_or rows i identity) (get_or rows j identity) ≡ true

-- The group of rows has each row, and that of commuting signed rows the product of any two of its members. (Of i times
-- a row the square is -I.)
pub record CommutingRowsAreAGroup : Type 0 where
  pub rows : (rows : List Pauli) (i : ℕ) → i < length rows → InGroup rows (get_or rows i identity)
  pub products : (rows : List Pauli) → all_of is_signed_row rows ≡ true → Commuting rows → (P Q : Pauli)
      → InGroup rows P
      → InGroup rows Q
      → InGroup rows (product P Q)

-- Reduction keeps the signed group: a row may be replaced by what other rows leave of it.
abbrev pub ReductionKeepsTheGroup : Type 0
ReductionKeepsTheGroup =
    (n : ℕ) (rows : List Pauli) (P : Pauli) → all_of (is_row n) (rows ++ P ∷ []) ≡ true → Commuting (rows ++ P ∷ [])
    → (R : Pauli)
    → InGroup (rows ++ P ∷ []) R ↔ InGroup (rows ++ reduced n rows P ∷ []) R

-- A Pauli is in the group, phase aside, exactly when it reduces to I: by rows in reduced echelon form, and by the
-- canonical generators of any rows.
pub record ReductionDecidesMembership : Type 0 where
  pub echelon : (n : ℕ) (rows : List Pauli) → ReducedEchelon n rows → (P : Pauli)
      → reduces_to_identity n rows P ≡ in_group_up_to_phase rows P
  pub canonical : (n : ℕ) (rows : List Pauli) → all_of (on_qubits n) rows ≡ true → (P : Pauli)
      → reduces_to_identity n (canonical_generators n rows) P ≡ in_group_up_to_phase rows P

-- What rows leave of a product, phase aside, is the sum of what they leave of the two, bit by bit, whatever the rows.
abbrev pub RemainderIsAdditive : Type 0
RemainderIsAdditive =
    (n : ℕ) (rows : List Pauli) (P Q : Pauli)
    → remainder_word n rows (product P Q) ≡ bit_xor (remainder_word n rows P) (remainder_word n rows Q)

-- It is 0 exactly where the Pauli reduces to I; so, by the canonical generators of any rows, exactly where the Pauli is
-- in the group, phase aside. The X masks have to fit their 32 bits.
pub record RemainderTellsMembers : Type 0 where
  pub reduces : (n : ℕ) (rows : List Pauli) → all_of (λ h. ltb h.a (2 ^ 32)) rows ≡ true → (P : Pauli)
      → P.a < 2 ^ 32
      → eqb (remainder_word n rows P) 0 ≡ reduces_to_identity n rows P
  pub canonical : (n : ℕ) (rows : List Pauli) → n ≤ 32 → all_of (on_qubits n) rows ≡ true → (P : Pauli) → P.a < 2 ^ 32
      → eqb (remainder_word n (canonical_generators n rows) P) 0 ≡ in_group_up_to_phase rows P

-- Rows of n qubits that generate a stabilizer group: they commute, and no product of them is -I. Some of them may be
-- products of others.
pub record StabilizerRows (n : ℕ) (rows : List Pauli) : Type 0 where
  pub are_rows : all_of (is_row n) rows ≡ true
  pub commuting : Commuting rows
  pub no_minus : InGroup rows minus_identity → ⊥

-- Rows that pass 6 to 8 are such rows.
abbrev pub FaultlessRowsStabilize : Type 0
FaultlessRowsStabilize =
    (n at : ℕ) (rows : List Pauli) → all_of (is_row n) rows ≡ true → generator_fault at rows ≡ None
    → StabilizerRows n rows

-- One signed row of their group at most has given masks, and the sign found is its sign; there is one exactly where
-- some selection's product has these masks.
pub record MemberSignDecides (rows : List Pauli) (P : Pauli) : Type 0 where
  pub found : (s : Sign) → (member_sign rows P ≡ Some s) ↔ InGroup rows (row_of s P.a P.b)
  pub missing : (member_sign rows P ≡ None) ↔ (in_group_up_to_phase rows P ≡ false)

abbrev pub MemberSignIsDecided : Type 0
MemberSignIsDecided = (n : ℕ) (rows : List Pauli) → StabilizerRows n rows → (P : Pauli) → MemberSignDecides rows P

-- RULES, "Canonical generators": the same signed group, in reduced echelon form, with phases 0 to 3.
abbrev pub CanonicalGeneratorsAreCanonical : Type 0
CanonicalGeneratorsAreCanonical =
    (n : ℕ) (rows : List Pauli) → StabilizerRows n rows → IsCanonical n rows (canonical_generators n rows)

-- There are no more canonical generators than rows, and of rows that pass 6 to 8 there are as many.
pub record CanonicalGeneratorsAreCounted : Type 0 where
  pub few : (n : ℕ) (rows : List Pauli) → length (canonical_generators n rows) ≤ length rows
  pub same : (n at : ℕ) (rows : List Pauli) → all_of (is_row n) rows ≡ true → generator_fault at rows ≡ None
      → length (canonical_generators n rows) ≡ length rows

-- A refusal of the call leaves the buffer as it was.
abbrev pub CanonicalRefusalsLeave : Type 0
CanonicalRefusalsLeave = (c : Code) (buffer : List ℕ) → RefusalLeaves result_err buffer (write_canonical c buffer)

-- The numbers with which it refuses, and those of its checks alone.
pub record CanonicalRefusalNumbers : Type 0 where
  pub call : (c : Code) (buffer : List ℕ) (refusal : Refusal)
      → result_err (write_canonical c buffer).answer ≡ Some refusal
      → Among (6 ∷ 7 ∷ 8 ∷ 15 ∷ 17 ∷ []) refusal
  pub checks : (c : Code) (refusal : Refusal) → group_fault c ≡ Some refusal → Among (6 ∷ 7 ∷ 8 ∷ 15 ∷ []) refusal
