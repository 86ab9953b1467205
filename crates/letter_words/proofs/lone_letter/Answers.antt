-- The first letter that fits at a qubit, where none fits at those behind it.
use Rattle.std.proofs.Common.{◌≡◌, ℕ, ◌+◌, ◌-◌, ◌*◌, ◌/◌, ◌%◌, ◌^◌, ◌<◌, ◌≤◌, List, min, true, false}
use Rattle.std.proofs.Common.{ap₂, subst, sym, ◌∙◌, arith}
use Rattle.std.specs.Prelude.{None}
use native.Mathlib.Nat.{zero-mul}
use borrow.Author.Count.{below_none, below_more}
use borrow.Author.Tests.{eq-eqb, ne_eqb}
use lib.Pow.{shl_exact}
use Rattle.letters.specs.Letters.{struck_letter}
use Rattle.pauli.specs.declared.Pauli.{Pauli}
use Rattle.code_record.specs.declared.Code.{Code}
use Rattle.code_record.specs.Record.{generators}
use Rattle.letter_sums.specs.Sums.{masks_at, placed_at, found_as}
use Rattle.letter_words.specs.declared.LetterSets.{LetterSets}
use Rattle.letter_words.specs.Lone.{lone_letter, AreCandidates}
use Rattle.letter_words.specs.Words.{word_qubits, with_generators}
use Rattle.letter_words.proofs.LoneLetters.{set_of, fits, NoneFrom, none-fits, found-there, none_here}
use Rattle.letter_words.proofs.lone_letter.Goals as goal

module _ (n r want qubit : ℕ) (g : List Pauli) (sets : LetterSets)
    (told : AreCandidates (generators (with_generators 0 r g)) want sets) (inside : qubit ≤ min n 32)
    (behind : NoneFrom sets (min n 32) qubit) where
  abbrev code : Code
  code = with_generators n r g

  are : AreCandidates (generators code) want sets
  unfolding generators
  are = told

  nowhere : qubit ≡ 0 → None ≡ found_as (lone_letter code want)
  unfolding word_qubits
  nowhere first =
      none-fits code want are (subst (λ (q : ℕ). NoneFrom sets (word_qubits code) q) first behind)

  module _ (some : 0 < qubit) where
    -- The bit that tells whether a set has the qubit, and the mask with its bit.
    abbrev bit : ℕ → ℕ
    bit set = set / 2 ^ (qubit - 1) % 2

    abbrev mask : ℕ
    mask = 1 * 2 ^ (qubit - 1) % 2 ^ 32

    moved : mask ≡ 1 * 2 ^ (qubit - 1)
    moved = shl_exact 1 (qubit - 1) 32 (omega arith) (omega arith)

    next : NoneFrom sets (min n 32) (qubit - 1 + 1)
    next = subst (λ (q : ℕ). NoneFrom sets (min n 32) q) (omega arith) behind

    -- The letters that were passed at the qubit.
    abbrev NoneBelow : ℕ → Type 0
    NoneBelow k = (j : ℕ) → j < k → fits sets (qubit - 1) j ≡ false

    no-x : (bit sets.x ≡ 1 → ⊥) → NoneBelow 1
    unfolding fits set_of
    no-x x = below_more _ 0 (below_none _) (ne_eqb _ 1 x)

    no-y : (bit sets.x ≡ 1 → ⊥) → (bit sets.y ≡ 1 → ⊥) → NoneBelow 2
    unfolding fits set_of
    no-y x y = below_more _ 1 (no-x x) (ne_eqb _ 1 y)

    no-z : (bit sets.x ≡ 1 → ⊥) → (bit sets.y ≡ 1 → ⊥) → (bit sets.z ≡ 1 → ⊥) → NoneBelow 3
    unfolding fits set_of
    no-z x y z = below_more _ 2 (no-y x y) (ne_eqb _ 1 z)

    found : (k : ℕ) → k < 3 → NoneBelow k → fits sets (qubit - 1) k ≡ true
        → placed_at (qubit - 1) (struck_letter k) 0 0 ≡ found_as (lone_letter code want)
    unfolding word_qubits
    found k small before fitting =
        found-there code want are (qubit - 1) k (omega arith) small next before fitting

    is-x : bit sets.x ≡ 1 → masks_at mask 0 ≡ found_as (lone_letter code want)
    unfolding fits set_of struck_letter
    is-x x =
        ap₂ masks_at moved (sym (zero-mul (2 ^ (qubit - 1))))
        ∙ found 0 (omega arith) (below_none _) (eq-eqb _ 1 x)

    is-y : (bit sets.x ≡ 1 → ⊥) → bit sets.y ≡ 1 → masks_at mask mask ≡ found_as (lone_letter code want)
    unfolding fits set_of struck_letter
    is-y x y = ap₂ masks_at moved moved ∙ found 1 (omega arith) (no-x x) (eq-eqb _ 1 y)

    is-z : (bit sets.x ≡ 1 → ⊥) → (bit sets.y ≡ 1 → ⊥) → bit sets.z ≡ 1
        → masks_at 0 mask ≡ found_as (lone_letter code want)
    unfolding fits set_of struck_letter
    is-z x y z =
        ap₂ masks_at (sym (zero-mul (2 ^ (qubit - 1)))) moved ∙ found 2 (omega arith) (no-y x y) (eq-eqb _ 1 z)

pub returns-then-fitting-qubit-eq1 : goal.returns-then-fitting-qubit-eq1
returns-then-fitting-qubit-eq1 c =
    let a = c.args in
    let inv = c.loop-qubit.invariant in
    is-x a.n a.r a.syndrome _ a.g _ c.candidates-fitting.ensures inv.0 inv.1 c.loop-qubit-test.true
    c.if-fitting-qubit-eq1.true

pub returns-then-fitting-qubit-eq1-2 : goal.returns-then-fitting-qubit-eq1-2
returns-then-fitting-qubit-eq1-2 c =
    let a = c.args in
    let inv = c.loop-qubit.invariant in
    is-y a.n a.r a.syndrome _ a.g _ c.candidates-fitting.ensures inv.0 inv.1 c.loop-qubit-test.true
    c.if-fitting-qubit-eq1.false c.if-fitting-qubit-eq1-2.true

pub returns-then-fitting-qubit-eq1-3 : goal.returns-then-fitting-qubit-eq1-3
returns-then-fitting-qubit-eq1-3 c =
    let a = c.args in
    let inv = c.loop-qubit.invariant in
    is-z a.n a.r a.syndrome _ a.g _ c.candidates-fitting.ensures inv.0 inv.1 c.loop-qubit-test.true
    c.if-fitting-qubit-eq1.false c.if-fitting-qubit-eq1-2.false c.if-fitting-qubit-eq1-3.true

pub loop-qubit-preserved : goal.loop-qubit-preserved
loop-qubit-preserved c =
    let a = c.args in
    let inv = c.loop-qubit.invariant in
    let told = c.candidates-fitting.ensures in
    let some = c.loop-qubit-test.true in (
      omega arith,
      none_here _ (min a.n 32) _ (next a.n a.r a.syndrome _ a.g _ told inv.0 inv.1 some)
          (no-z a.n a.r a.syndrome _ a.g _ told inv.0 inv.1 some c.if-fitting-qubit-eq1.false
          c.if-fitting-qubit-eq1-2.false c.if-fitting-qubit-eq1-3.false),
    )

pub returns : goal.returns
returns c =
    let a = c.args in
    let inv = c.loop-qubit.invariant in
    nowhere a.n a.r a.syndrome _ a.g _ c.candidates-fitting.ensures inv.0 inv.1 (omega arith)
