use Rattle.kc_cert.specs.Text.CertTexts.{list_format}
use Rattle.kc_cert.proofs.TextLemmas.TimesLoops.{counted_go, counted_stop}
use Rattle.kc_cert.proofs.text.read.counted_lists.Goals as goal

pub returns-in-Ok : goal.returns-in-Ok
returns-in-Ok c = counted_go list_format c.args.bytes.now c.in-Ok.rest.now c.in-Ok.count c.args.lists.now c.read_lists.new.lists c.read_lists.result c.in-Ok.ensures c.read_lists.ensures

pub returns-in-Err : goal.returns-in-Err
returns-in-Err c = counted_stop list_format c.args.bytes.now c.args.lists.now c.args.lists.now c.in-Err.stop.now c.in-Err.ensures
