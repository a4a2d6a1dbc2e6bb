use Rattle.kc_cert.specs.Text.CertTexts.{line_format}
use Rattle.kc_cert.proofs.TextLemmas.TimesLoops.{counted_go, counted_stop}
use Rattle.kc_cert.proofs.text.read.counted_numbers.Goals as goal

pub returns-in-Ok : goal.returns-in-Ok
returns-in-Ok c = counted_go line_format c.args.bytes.now c.in-Ok.rest.now c.in-Ok.count c.args.list.now c.read_numbers.new.list c.read_numbers.result c.in-Ok.ensures c.read_numbers.ensures

pub returns-in-Err : goal.returns-in-Err
returns-in-Err c = counted_stop line_format c.args.bytes.now c.args.list.now c.args.list.now c.in-Err.stop.now c.in-Err.ensures
