use Rattle.kc_plan.specs.Views.{plan_seen}
use Rattle.kc_cause.proofs.ChainLemmas.{told-left}
use Rattle.kc_cause.proofs.chain.left_as.Goals as goal

pub returns-in-Ok-clause-exact : goal.returns-in-Ok-clause-exact
returns-in-Ok-clause-exact g c =
    told-left _ c.repair_left-memory.result.repair c.in-Ok.repair (plan_seen c.args.over.now.plan.now) (c.args.root.audit, c.args.root.start) c.args.words.now c.args.kind.now c.args.found.now
    c.in-Ok.is c.repair_left-memory.ensures.exact
