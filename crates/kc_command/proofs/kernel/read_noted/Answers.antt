use Rattle.kc_command.proofs.KernelLemmas.{noted_told}
use Rattle.kc_command.proofs.kernel.read_noted.Goals as goal

pub returns-clause-told : goal.returns-clause-told
returns-clause-told g c = noted_told c.args.most (g.S.Store.files c.args.store.now) c.args.name.now c.in_ok-core.core c.in_ok-info.info c.in_ok-core.ensures.told c.in_ok-info.ensures.made
