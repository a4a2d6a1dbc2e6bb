use Rattle.std.proofs.Common.{rules, ◌≡◌, Err}
use Rattle.kc_cert.specs.Text.CertTexts.{line_format}
use Rattle.kc_cert.proofs.TextLemmas.TimesLoops.{times_begin, times_end, times_go, times_stop}
use Rattle.kc_cert.proofs.text.read.read_numbers.Goals as goal

pub loop-init : goal.loop-init
loop-init c = times_begin line_format c.args.bytes.now c.args.count c.args.list.now

pub loop-preserved : goal.loop-preserved
loop-preserved c = times_go line_format c.args.bytes.now c.args.count c.loop.counter c.args.list.now c.loop.list c.next_number.new.list c.loop.rest.now c.in_ok-rest.rest c.loop-test.true c.loop.invariant c.in_ok-rest.ensures

pub returns-in_err-rest : goal.returns-in_err-rest
returns-in_err-rest c =
    let ended : c.from_residual.result ≡ Err c.in_err-rest.field-0.0 = search rules in
    rw ended (times_stop line_format c.args.bytes.now c.args.count c.loop.counter c.args.list.now c.loop.list c.next_number.new.list c.next_number.new.list c.loop.rest.now c.in_err-rest.field-0.0 c.loop-test.true c.loop.invariant c.in_err-rest.ensures)

pub returns : goal.returns
returns c = times_end line_format c.args.bytes.now c.args.count c.loop.counter c.args.list.now c.loop.list c.loop.rest c.loop-test.false c.loop.invariant
