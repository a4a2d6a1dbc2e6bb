use Rattle.kc_syms.proofs.LaneLemmas.{run-names, run-within}
use Rattle.kc_syms.proofs.lanes.run_at.Goals as goal

pub returns-clause-within : goal.returns-clause-within
returns-clause-within c = run-within c.args.text.now c.args.at _ c.requires c.first_stop.ensures

pub returns-clause-names : goal.returns-clause-names
returns-clause-names c = run-names c.args.text.now c.args.at _ c.requires c.first_stop.ensures
