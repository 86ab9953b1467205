-- The call answers as `write_account` says: 15, 17, or the lines, as the tests go.
use Rattle.std.proofs.Common.{length, ap, sym, ◌∙◌, arith}
use Rattle.std.proofs.lemmas.Result.{err_from_is_err_and}
use borrow.Author.Tests.{leb-true, leb-false}
use Rattle.sheet.specs.Text.{laid}
use Rattle.sheet.proofs.WrittenText.{answers-fault, answers-short, answers-whole}
use Rattle.row_writer.proofs.Lines.{qubits-allowed}
use Rattle.letter_words.specs.Words.{syndrome_words}
use Rattle.account_writer.specs.Account.{account_by, write_account}
use Rattle.account_writer.proofs.Account.{words-within, own-account}
use Rattle.account_writer.proofs.write_account.Goals as goal

pub returns-in_err-check_qubits : goal.returns-in_err-check_qubits
unfolding write_account
returns-in_err-check_qubits c =
    let a = c.args in
    let p = err_from_is_err_and c.from_residual.result c.from_residual.ensures.1 in
    let told = answers-fault (account_by a.code a.reduced (syndrome_words a.code) a.syndromes.now) a.out.now
    (sym c.in_err-check_qubits.ensures) in
    record { value = rw (p.1, p.2) told.0; out_after = told.1 }

pub account_fits-requires : goal.account_fits-requires
account_fits-requires c =
    let on = qubits-allowed c.args.code.n c.in_ok-check_qubits.ensures in
    let b = words-within c.args.code c.syndrome_words-words.ensures on in
    record { n_le_most_qubits = on.1; le_qubits = b.0; qubits_le_most_qubits = b.1 }

pub returns-then-not-account_fits : goal.returns-then-not-account_fits
unfolding write_account
returns-then-not-account_fits c =
    let a = c.args in
    let own = own-account a.code c.syndrome_words-words.ensures a.reduced a.syndromes.now in
    let short = leb-false _ (length a.out.now) (sym c.account_fits.ensures ∙ c.if-not-account_fits.true) in
    let told = answers-short _ a.out.now (sym c.in_ok-check_qubits.ensures) (omega (arith, short, ap length own)) in
    record { value = told.0; out_after = told.1 }

pub account_lines-requires : goal.account_lines-requires
account_lines-requires c =
    let on = qubits-allowed c.args.code.n c.in_ok-check_qubits.ensures in
    let b = words-within c.args.code c.syndrome_words-words.ensures on in
    record {
      le_n = on.0;
      n_le_most_qubits = on.1;
      le_qubits = b.0;
      qubits_le_most_qubits = b.1;
      syndromes_in_bounds =
          leb-true _ (length c.args.out.now) (sym c.account_fits.ensures ∙ c.if-not-account_fits.false);
    }

pub returns : goal.returns
unfolding write_account
returns c =
    let a = c.args in
    let own = own-account a.code c.syndrome_words-words.ensures a.reduced a.syndromes.now in
    let room = leb-true _ (length a.out.now) (sym c.account_fits.ensures ∙ c.if-not-account_fits.false) in
    let told = answers-whole _ a.out.now (sym c.in_ok-check_qubits.ensures) (omega (arith, room, ap length own))
    (c.account_lines.ensures.value ∙ ap length own)
    (c.account_lines.ensures.out_after ∙ ap (λ t. laid t a.out.now) own) in
    record { value = told.0; out_after = told.1 }
