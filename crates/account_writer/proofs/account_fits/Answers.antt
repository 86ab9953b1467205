-- The lines of the code do not fit, or the corrections decide.
use Rattle.std.proofs.Common.{ℕ, ◌-◌, ◌∙◌, arith}
use mathlib.Core.Path.{ap₂}
use Rattle.correction_lines.specs.CorrectionLines.{corrections_fit}
use Rattle.account_writer.proofs.Account.{front-unfit, rest-decides}
use Rattle.account_writer.proofs.account_fits.Goals as goal

pub returns-then-room-front : goal.returns-then-room-front
returns-then-room-front c =
    let a = c.args in
    front-unfit a.code a.reduced a.words.now a.syndromes.now a.room
    (omega (arith, c.if-room-front.true, c.code_length-front.ensures))

pub returns : goal.returns
returns c =
    let a = c.args in
    let front = c.code_length-front.ensures in
    rest-decides a.code a.reduced a.words.now a.syndromes.now a.room c.requires.le_qubits
    c.requires.qubits_le_most_qubits (omega (arith, c.if-room-front.false, front))
    (c.corrections_fit.ensures
    ∙ ap₂ (λ (t front : ℕ). corrections_fit a.words.now t a.code.r a.syndromes.now (a.room - front)) c.radius.ensures
    front)
