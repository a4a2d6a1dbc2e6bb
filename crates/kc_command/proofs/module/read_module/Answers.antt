use Rattle.kc_command.specs.CallLaws.{reads_on}
use Rattle.kc_command.proofs.module.read_module.Goals as goal

pub returns-clause-calls : goal.returns-clause-calls
returns-clause-calls g c =
    reads_on g.S.Store.faults g.S.Store.asked c.take_module.result c.args.store.now c.read_file.new.store
    c.in_ok-bytes.ensures.calls c.take_module.ensures.no_call c.take_module.ensures.read
