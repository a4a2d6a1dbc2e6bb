use Rattle.kc_report.proofs.ItemLemmas.{names-keep}
use Rattle.kc_report.proofs.names.PlanNames.push.Goals as goal

pub invariant_of-self : goal.invariant_of-self
invariant_of-self c = names-keep c.push.result c.self.inside.names c.push.new.self c.args.name c.push.ensures.added c.push.ensures.kept c.self.invariant c.requires
