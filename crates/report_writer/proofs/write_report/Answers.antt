-- The report by what was read and checked. The third guarantee holds of what the call leaves, since it holds of the
-- definition.
use Rattle.std.proofs.Common.{List, ℕ, length, ap, ◌∙◌, arith}
use Rattle.code_checks.proofs.CheckOrder.{checked-fault, checked-rows}
use Rattle.report_writer.specs.Reports.{write_checked}
use Rattle.report_writer.proofs.Reports.{lines-stopped, lines-got, stopped-report, code-fault}
use Rattle.report_writer.proofs.Reports.{faulty-report, checked-report, few-lines, ends_with}
use Rattle.report_writer.proofs.write_report.Goals as goal

pub returns-in-Err : goal.returns-in-Err
returns-in-Err c =
    let input = c.args.input.now in
    let buffer = c.args.out.now in
    let refusal = c.in-Err.refusal in
    let stopped = lines-stopped input c.read_lines-reading.result c.read_lines-reading.ensures refusal c.in-Err.is in
    let told = ends_with input buffer (stopped-report input buffer refusal stopped) c.write_refusal.ensures.value
    c.write_refusal.ensures.out_after in
    record { value = told.0; out_after = told.1.0; guaranteed_report = told.1.1 }

pub returns-in-Err-answer : goal.returns-in-Err-answer
returns-in-Err-answer c =
    let input = c.args.input.now in
    let buffer = c.args.out.now in
    let reading = c.read_lines-reading.result in
    let got = lines-got input reading c.read_lines-reading.ensures _ c.in_default.is in
    let fault = code-fault input buffer reading got _
    (checked-fault reading.claim_at reading.code c.check_code-checks.ensures c.in-Err-answer.is) in
    let told = ends_with input buffer (faulty-report input buffer reading got c.in-Err-answer.refusal fault)
    c.write_refusal-in-Err-answer.ensures.value c.write_refusal-in-Err-answer.ensures.out_after in
    record { value = told.0; out_after = told.1.0; guaranteed_report = told.1.1 }

pub report_of_code-requires : goal.report_of_code-requires
report_of_code-requires c =
    let input = c.args.input.now in
    let reading = c.read_lines-reading.result in
    let got = lines-got input reading c.read_lines-reading.ensures _ c.in_default.is in
    omega (arith, few-lines input c.args.out.now reading got, ap length c.behind.ensures)

pub returns : goal.returns
returns c =
    let input = c.args.input.now in
    let buffer = c.args.out.now in
    let reading = c.read_lines-reading.result in
    let got = lines-got input reading c.read_lines-reading.ensures _ c.in_default.is in
    let fault = code-fault input buffer reading got _
    (checked-fault reading.claim_at reading.code c.check_code-checks.ensures c.in_default-answer.is) in
    let hs = c.check_code-checks.result.reduced in
    let rows = checked-rows reading.claim_at reading.code c.check_code-checks.ensures c.in_default-answer.is in
    let rest = ap (λ (s : List ℕ). write_checked reading.code hs reading.claim_at s buffer) c.behind.ensures in
    let told = ends_with input buffer (rest ∙ checked-report input buffer reading got fault hs rows)
    c.report_of_code.ensures.value c.report_of_code.ensures.out_after in
    record { value = told.0; out_after = told.1.0; guaranteed_report = told.1.1 }
