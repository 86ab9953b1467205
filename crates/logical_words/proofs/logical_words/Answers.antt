-- Each turn stores what the rows leave of three letters.
use Rattle.std.proofs.Common.{ℕ, ◌+◌, ◌-◌, ◌<◌, ◌≤◌, set, refl, ap, ◌∙◌, arith}
use Rattle.reduced_rows.specs.Rows.{rows_in}
use Rattle.letter_sums.specs.declared.LetterWords.{LetterWords}
use Rattle.letter_sums.specs.Sums.{qubit_room}
use Rattle.letter_words.specs.Words.{words_of, word_qubits, syndrome_words}
use Rattle.letter_words.proofs.Filling.{none_filled, three-more, all-filled}
use Rattle.logical_words.specs.Words.{left_at_once, logical_words}
use Rattle.logical_words.proofs.LettersLeft.{x-left, y-left, z-left}
use Rattle.logical_words.proofs.logical_words.Invariants.{with_second}
use Rattle.logical_words.proofs.logical_words.Goals as goal

-- Words with one of the second words stored.
abbrev stored : ℕ → LetterWords → ℕ → LetterWords
stored at w m = with_second w (set w.second at m)

pub loop-right-init : goal.loop-right-init
unfolding syndrome_words word_qubits
loop-right-init c =
    let w = c.syndrome_words-words.result in
    let syndromes = c.syndrome_words-words.ensures in
    let few : w.qubits ≤ qubit_room = omega (arith, ap (λ (u : LetterWords). u.qubits) syndromes) in (
      few,
      λ rows known. none_filled (left_at_once rows) (with_second w) w.qubits w few
          (ap (λ (u : LetterWords). with_second w u.second) syndromes),
    )

pub loop-right-preserved : goal.loop-right-preserved
loop-right-preserved c =
    let inv = c.loop-right.invariant in
    let right = c.loop-right.right in
    let qubits = c.syndrome_words-words.result.qubits in
    let qubit = qubits - 1 - right in
    let within : qubit < qubit_room = omega (arith, inv.0) in (
      inv.0,
      λ rows known.
          let x = x-left rows qubit within (known qubit (omega arith)) in
          let z = z-left rows qubit within (known (qubit + 32) (omega arith)) in
          three-more (left_at_once rows) qubits right qubit (omega arith) (inv.1 rows known) stored
          (λ i table m. refl) x (y-left rows qubit within x z) z,
    )

pub returns : goal.returns
unfolding logical_words syndrome_words
returns c =
    let rows = rows_in c.args.rows in
    all-filled (c.loop-right.invariant.1 rows c.rows_by_pivot-sums.ensures) (omega arith)
    ∙ ap (λ (u : LetterWords). with_second u (words_of (left_at_once rows) u.qubits)) c.syndrome_words-words.ensures
