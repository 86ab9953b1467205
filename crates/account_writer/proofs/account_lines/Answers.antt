-- Behind each call the slice holds the lines up to there, and `end` is their length.
use Rattle.std.proofs.Common.{arith}
use Rattle.sheet.proofs.Laid.{Holds}
use Rattle.account_writer.specs.Account.{code_by}
use Rattle.account_writer.proofs.Account.{length-account, front-within, account-laid}
use Rattle.account_writer.proofs.account_lines.Goals as goal

pub code_lines-end-requires : goal.code_lines-end-requires
code_lines-end-requires c =
    let a = c.args in
    record {
      le_n = c.requires.le_n;
      n_le_most_qubits = c.requires.n_le_most_qubits;
      reduced_in_bounds =
          omega (arith, length-account a.code a.reduced a.words.now a.syndromes.now, c.requires.syndromes_in_bounds);
    }

pub slice_bounds-write_corrections-count : goal.slice_bounds-write_corrections-count
slice_bounds-write_corrections-count c =
    let a = c.args in
    let call = c.code_lines-end in
    let front : Holds (code_by a.code a.reduced) a.out.now call.new.out call.result =
    record { content = call.ensures.out_after; count = call.ensures.value; size = call.auto.out } in
    front-within a.code a.reduced a.words.now a.syndromes.now c.requires.syndromes_in_bounds front

pub slice_bounds-write_corrections-start : goal.slice_bounds-write_corrections-start
slice_bounds-write_corrections-start c =
    let a = c.args in
    let call = c.code_lines-end in
    let front : Holds (code_by a.code a.reduced) a.out.now call.new.out call.result =
    record { content = call.ensures.out_after; count = call.ensures.value; size = call.auto.out } in
    front-within a.code a.reduced a.words.now a.syndromes.now c.requires.syndromes_in_bounds front

pub overflow_add-end : goal.overflow_add-end
overflow_add-end c =
    let a = c.args in
    let call = c.code_lines-end in
    let front : Holds (code_by a.code a.reduced) a.out.now call.new.out call.result =
    record { content = call.ensures.out_after; count = call.ensures.value; size = call.auto.out } in
    let held = account-laid a.code a.reduced a.words.now a.syndromes.now c.requires.syndromes_in_bounds front
    c.requires.le_qubits c.requires.qubits_le_most_qubits c.radius.ensures c.write_corrections.ensures.value
    c.write_corrections.ensures.out_after c.write_corrections.auto.out c.bytes_written-end.ensures in
    record { fits = omega (arith, held.count, c.requires.syndromes_in_bounds, c.well_formed) }

pub returns : goal.returns
returns c =
    let a = c.args in
    let call = c.code_lines-end in
    let front : Holds (code_by a.code a.reduced) a.out.now call.new.out call.result =
    record { content = call.ensures.out_after; count = call.ensures.value; size = call.auto.out } in
    let held = account-laid a.code a.reduced a.words.now a.syndromes.now c.requires.syndromes_in_bounds front
    c.requires.le_qubits c.requires.qubits_le_most_qubits c.radius.ensures c.write_corrections.ensures.value
    c.write_corrections.ensures.out_after c.write_corrections.auto.out c.bytes_written-end.ensures in
    record { value = held.count; out_after = held.content }
