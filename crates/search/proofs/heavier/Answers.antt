-- The table tells nothing wrong, and its length is known.
use mathlib.Core.Path.{◌≡◌, subst, sym, ◌∙◌, ap}
use mathlib.Core.List.{List}
use Prim.Native.Nat.{ℕ, ◌*◌, ◌≤◌}
use native.Mathlib.Omega.{arith}
use lib.ListN.{length, take, length-take}
use lib.Seq.{take_all, length-take-le}
use Rattle.word_filter.specs.Filter.{first_places, NoneBefore}
use Rattle.word_filter.proofs.Tables.{all_told, length-first-places}
use Rattle.search.proofs.heavier.Goals as goal

-- The words of the qubits.
abbrev words : List ℕ → ℕ → List ℕ
words first qubits = take (3 * qubits) first

-- They have room in an array.
whole : (first : List ℕ) (qubits : ℕ) → qubits ≤ 32
    → first_places (take 96 (words first qubits)) ≡ first_places (words first qubits)
whole first qubits few =
    let counted = length-take (3 * qubits) first in
    let all : length (words first qubits) ≤ 96 = omega (arith, few, counted) in
    ap first_places (take_all 96 (words first qubits) all)

pub slice_bounds-first_places-end : goal.slice_bounds-first_places-end
slice_bounds-first_places-end c =
    sym (length-take-le (3 * c.args.qubits) c.args.first.now c.requires.qubits_in_bounds)

pub slice_bounds-lightest-end : goal.slice_bounds-lightest-end
slice_bounds-lightest-end c =
    let a = c.args in
    length-first-places (words a.first.now a.qubits)
    ∙ ap length (sym (c.first_places.ensures ∙ whole a.first.now a.qubits c.requires.qubits_bound))

pub lightest-requires-clause-none_before : goal.lightest-requires-clause-none_before
lightest-requires-clause-none_before c =
    let a = c.args in
    subst (λ (places : List ℕ). NoneBefore places (words a.first.now a.qubits))
    (sym (c.first_places.ensures ∙ whole a.first.now a.qubits c.requires.qubits_bound))
    (all_told (words a.first.now a.qubits))
