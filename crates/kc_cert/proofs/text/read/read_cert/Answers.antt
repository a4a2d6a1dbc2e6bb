use Rattle.std.proofs.Common.{ap}
use Rattle.kc_cert.specs.Text.CertTexts.{placed}
use Rattle.kc_cert.proofs.TextLemmas.CertLaws.{all_end, all_more, all_stop, cert_is, none_left, only_one, refused_is, rest_within, some_left}
use Rattle.kc_cert.proofs.text.read.read_cert.Goals as goal

pub returns-then-is_empty-clause-cert : goal.returns-then-is_empty-clause-cert
returns-then-is_empty-clause-cert c =
    cert_is c.args.bytes.now c.read_all.new.cert (all_end c.args.bytes.now c.new-cert.result c.read_all.new.cert c.in-Ok.rest c.new-cert.ensures (none_left _ _ c.is_empty.ensures c.if-is_empty.true) c.in-Ok.ensures)

pub returns-then-is_empty-clause-only : goal.returns-then-is_empty-clause-only
returns-then-is_empty-clause-only c other is =
    only_one c.args.bytes.now other c.read_all.new.cert is (cert_is c.args.bytes.now c.read_all.new.cert (all_end c.args.bytes.now c.new-cert.result c.read_all.new.cert c.in-Ok.rest c.new-cert.ensures (none_left _ _ c.is_empty.ensures c.if-is_empty.true) c.in-Ok.ensures))

pub overflow_sub-result : goal.overflow_sub-result
overflow_sub-result c = rest_within c.args.bytes.now c.in-Ok.rest.now (all_more c.args.bytes.now c.new-cert.result c.read_all.new.cert c.in-Ok.rest (some_left _ _ c.is_empty.ensures c.if-is_empty.false) c.in-Ok.ensures)

pub returns-in-Ok-clause-refused : goal.returns-in-Ok-clause-refused
returns-in-Ok-clause-refused c = refused_is c.args.bytes.now c.in-Ok.rest.now (all_more c.args.bytes.now c.new-cert.result c.read_all.new.cert c.in-Ok.rest (some_left _ _ c.is_empty.ensures c.if-is_empty.false) c.in-Ok.ensures)

pub overflow_sub-result-in-Err-At : goal.overflow_sub-result-in-Err-At
overflow_sub-result-in-Err-At c = rw c.in-Err-At.field-0-is (rest_within c.args.bytes.now c.in-Err-At.rest.now (all_stop c.args.bytes.now c.new-cert.result c.read_all.new.cert c.in-Err-At.field-0 c.in-Err-At.rest c.in-Err-At.field-0-is c.in-Err-At.ensures))

pub returns-in-Err-At-clause-refused : goal.returns-in-Err-At-clause-refused
returns-in-Err-At-clause-refused c = rw c.in-Err-At.field-0-is (refused_is c.args.bytes.now c.in-Err-At.rest.now (all_stop c.args.bytes.now c.new-cert.result c.read_all.new.cert c.in-Err-At.field-0 c.in-Err-At.rest c.in-Err-At.field-0-is c.in-Err-At.ensures))

pub returns-then-is_empty-clause-made : goal.returns-then-is_empty-clause-made
returns-then-is_empty-clause-made c =
    ap (placed c.args.bytes.now) (all_end c.args.bytes.now c.new-cert.result c.read_all.new.cert c.in-Ok.rest c.new-cert.ensures (none_left _ _ c.is_empty.ensures c.if-is_empty.true) c.in-Ok.ensures)

pub returns-in-Ok-clause-made : goal.returns-in-Ok-clause-made
returns-in-Ok-clause-made c =
    ap (placed c.args.bytes.now) (all_more c.args.bytes.now c.new-cert.result c.read_all.new.cert c.in-Ok.rest (some_left _ _ c.is_empty.ensures c.if-is_empty.false) c.in-Ok.ensures)

pub returns-in-Err-At-clause-made : goal.returns-in-Err-At-clause-made
returns-in-Err-At-clause-made c =
    rw c.in-Err-At.field-0-is (ap (placed c.args.bytes.now) (all_stop c.args.bytes.now c.new-cert.result c.read_all.new.cert c.in-Err-At.field-0 c.in-Err-At.rest c.in-Err-At.field-0-is c.in-Err-At.ensures))
