use Rattle.kc_command.proofs.Opening.{whole}
use Rattle.kc_command.proofs.file.read_file.Goals as goal

pub returns-clause-calls : goal.returns-clause-calls
returns-clause-calls g c =
    let r = c.read_opened.ensures in
    whole g.S.Store.faults g.S.Store.asked c.read_opened.result c.args.store.now c.open.new.store c.read_opened.new.store
    c.in_ok-size.ensures.quiet c.in_ok-size.ensures.calls r.not_refused r.calls r.failed r.uncalled r.cause
