use Rattle.std.proofs.Common.{ap}
use Rattle.kc_report.specs.Reads.{placed}
use Rattle.kc_report.proofs.BackLemmas.{only_one, report_is, rest_within, refused_is, stopped_at}
use Rattle.kc_report.proofs.back.read_report.Goals as goal

pub overflow_sub-result : goal.overflow_sub-result
overflow_sub-result c =
    let bytes = c.args.bytes.now in
    rest_within bytes c.in-Err-At.rest.now (stopped_at bytes c.in-Err-At.field-0 c.in-Err-At.rest c.in-Err-At.field-0-is c.in-Err-At.ensures)

pub returns-in-Ok-clause-report : goal.returns-in-Ok-clause-report
returns-in-Ok-clause-report c = report_is c.args.bytes.now _ c.in-Ok.report c.in-Ok.ensures

pub returns-in-Ok-clause-only : goal.returns-in-Ok-clause-only
returns-in-Ok-clause-only c other is =
    let bytes = c.args.bytes.now in
    only_one bytes other c.in-Ok.report is (report_is bytes _ c.in-Ok.report c.in-Ok.ensures)

pub returns-in-Err-At-clause-refused : goal.returns-in-Err-At-clause-refused
returns-in-Err-At-clause-refused c =
    let bytes = c.args.bytes.now in
    refused_is bytes c.in-Err-At.rest.now (stopped_at bytes c.in-Err-At.field-0 c.in-Err-At.rest c.in-Err-At.field-0-is c.in-Err-At.ensures)

pub returns-in-Ok-clause-made : goal.returns-in-Ok-clause-made
returns-in-Ok-clause-made c = ap (placed c.args.bytes.now) c.in-Ok.ensures

pub returns-in-Err-At-clause-made : goal.returns-in-Err-At-clause-made
returns-in-Err-At-clause-made c =
    let bytes = c.args.bytes.now in
    ap (placed bytes) (stopped_at bytes c.in-Err-At.field-0 c.in-Err-At.rest c.in-Err-At.field-0-is c.in-Err-At.ensures)
