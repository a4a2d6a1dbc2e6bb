use Rattle.kc_kinds.proofs.PidLemmas.{moved_near}
use Rattle.kc_kinds.proofs.pids.moved.Goals as goal

pub returns-clause-exact : goal.returns-clause-exact
returns-clause-exact c = moved_near c.args.field c.args.byte _ _ _
