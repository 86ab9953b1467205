-- Each turn of the outer loop stores three words, whose bits the inner loop has read.
use Rattle.std.proofs.Common.{◌≡◌, ℕ, ◌-◌, length, length-take, set, refl, ap, ◌∙◌, rules, arith}
use Rattle.code_record.specs.Record.{row_room, generators}
use Rattle.letter_sums.specs.declared.LetterWords.{LetterWords}
use Rattle.letter_words.specs.Words.{words_of, word_qubits, syndrome_words, with_generators}
use Rattle.letter_words.proofs.Filling.{none_filled, three-more, all-filled}
use Rattle.letter_words.proofs.GeneratorWords.{none_read, both_small, one-more-read, x-read, y-read, z-read}
use Rattle.letter_words.proofs.words_of.Invariants.{word, with_first}
use Rattle.letter_words.proofs.words_of.Goals as goal

-- Words with one of the first words stored.
abbrev stored : ℕ → LetterWords → ℕ → LetterWords
stored at w m = record { qubits = w.qubits; first = set w.first at m; second = w.second }

pub loop-right-init : goal.loop-right-init
loop-right-init c =
    let a = c.args in
    let qubits = c.min-qubits.result in
    none_filled (word a.n a.r a.g) (with_first qubits) qubits _ (omega (arith, c.min-qubits.ensures)) refl

pub loop-place-init : goal.loop-place-init
unfolding generators
loop-place-init c =
    let a = c.args in
    let room : length a.g ≡ row_room = search rules in
    none_read (with_generators a.n a.r a.g) (c.min-qubits.result - 1 - c.loop-right.right)
    (omega (arith, c.min-qubits.ensures)) room (omega (arith, c.min-count.ensures, length-take a.r a.g, room))

pub overflow_mul-both : goal.overflow_mul-both
overflow_mul-both c =
    let room : length c.args.g ≡ row_room = search rules in
    omega (arith, both_small c.loop-place.invariant room c.loop-place-test.true)

pub overflow_add-both : goal.overflow_add-both
overflow_add-both c =
    let room : length c.args.g ≡ row_room = search rules in
    omega (arith, both_small c.loop-place.invariant room c.loop-place-test.true, c.bits_at.ensures)

pub loop-place-preserved : goal.loop-place-preserved
loop-place-preserved c =
    let room : length c.args.g ≡ row_room = search rules in
    one-more-read c.loop-place.invariant room c.loop-place-test.true c.bits_at.ensures

pub loop-right-preserved : goal.loop-right-preserved
loop-right-preserved c =
    let a = c.args in
    let room : length a.g ≡ row_room = search rules in
    let qubits = c.min-qubits.result in
    let right = c.loop-right.right in
    let read = c.loop-place.invariant in
    let passed : c.loop-place.place ≡ 0 = omega (arith, c.loop-place-test.false) in
    three-more (word a.n a.r a.g) qubits right (qubits - 1 - right) (omega arith) c.loop-right.invariant stored
    (λ i table m. refl) (x-read read room passed) (y-read read room passed) (z-read read room passed)

pub returns : goal.returns
unfolding syndrome_words word_qubits
returns c =
    let a = c.args in
    all-filled c.loop-right.invariant (omega arith)
    ∙ ap (λ (n : ℕ). with_first n (words_of (word a.n a.r a.g) n)) c.min-qubits.ensures
