use Rattle.kc_report.proofs.BackLemmas.{head_good, head_stops}
use Rattle.kc_report.proofs.back.read_broken.Goals as goal

pub kept_broken-requires : goal.kept_broken-requires
kept_broken-requires c =
    let more = c.args.more in
    head_good more c.in-Ok.head c.args.bytes.now c.in-Ok.rest.now c.in-Ok-read_places.rest.now c.in-Ok-read_places.places (c.in-Ok.ensures more) c.in-Ok-read_places.ensures

pub returns-in-Err : goal.returns-in-Err
returns-in-Err c = head_stops c.args.more c.args.bytes.now c.in-Err.stop.now (c.in-Err.ensures c.args.more)
