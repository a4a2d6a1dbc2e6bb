use Rattle.kc_command.specs.CallLaws.{reads_on}
use Rattle.kc_command.proofs.types.read_types.Goals as goal

pub returns-clause-calls : goal.returns-clause-calls
returns-clause-calls g c =
    reads_on g.S.Store.faults g.S.Store.asked c.take_types.result c.args.store.now c.read_file.new.store
    c.in_ok-bytes.ensures.calls c.take_types.ensures.no_call c.take_types.ensures.read
