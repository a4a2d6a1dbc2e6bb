use Rattle.kc_report.proofs.ItemLemmas.{names-get}
use Rattle.kc_report.proofs.names.PlanNames.get.Goals as goal

pub returns-clause-form : goal.returns-clause-form
returns-clause-form c = names-get c.self.inside.names c.args.i c.get.result.now c.self.invariant c.get.ensures
