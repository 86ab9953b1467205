-- The answer by the tests, and by the count where they do not decide.
use Rattle.std.proofs.Common.{◌≡◌, false, arith}
use Rattle.std.proofs.lemmas.Bool.Decides.{nat_tests}
use borrow.Author.Rules.{rules}
use Rattle.code_record.specs.Record.{most_qubits, between}
use Rattle.correction_lines.proofs.Fits.{fit-outside, fit-counted, fit-always}
use Rattle.correction_lines.proofs.corrections_fit.Goals as goal

pub returns-then-not-contains : goal.returns-then-not-contains
unfolding between
returns-then-not-contains c =
    let a = c.args in
    let outside : between 2 most_qubits a.words.now.qubits ≡ false = grind (arith, nat_tests) in
    fit-outside a.words.now a.t a.r a.syndromes.now a.room outside

pub returns-then-syndromes-room : goal.returns-then-syndromes-room
returns-then-syndromes-room c =
    let a = c.args in
    fit-always a.words.now a.t a.r a.syndromes.now a.room (search rules) (search rules) (search rules)
    (search rules)

pub returns : goal.returns
returns c =
    let a = c.args in
    fit-counted a.words.now a.t a.r a.syndromes.now a.room (search rules) (search rules)
    c.lines_fit.ensures
