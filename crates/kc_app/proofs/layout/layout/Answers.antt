use Rattle.kc_command.specs.CallLaws.{reads_on}
use Rattle.kc_app.proofs.layout.layout.Goals as goal

pub returns-clause-calls : goal.returns-clause-calls
returns-clause-calls g c =
    reads_on g.S.Store.faults g.S.Store.asked c.lay_out.result c.args.store.now c.read_types.new.store
    c.in_ok-types.ensures.calls c.lay_out.ensures.no_call c.lay_out.ensures.read
