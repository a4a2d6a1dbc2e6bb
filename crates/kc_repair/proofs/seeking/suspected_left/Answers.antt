use Rattle.std.proofs.Common.{◌∙◌, length, sym}
use Rattle.kc_plan.specs.Views.{plan_seen}
use Rattle.kc_repair.specs.Repairs.{IsSuspected, with_words}
use Rattle.kc_repair.proofs.Left.{kept-left, left-inside, left-quiet}
use Rattle.kc_repair.proofs.Determined.{answered}
use Rattle.kc_repair.proofs.seeking.suspected_left.Goals as goal

pub returns-in-Ok-clause-exact : goal.returns-in-Ok-clause-exact
returns-in-Ok-clause-exact g c =
    kept-left _ (plan_seen c.args.audit.now.plan.now) c.in-Ok.seen c.left_of.result c.args.earlier.now c.args.kind.now c.args.found.now c.left_of.ensures.exact
    (answered _ c.ask_changed-memory.result.answer c.in-Ok.seen (λ image seen. IsSuspected (with_words image c.args.earlier.now) (plan_seen c.args.audit.now.plan.now) c.args.kind.now c.args.found.now seen) (sym c.unwrap_or.ensures ∙ c.in-Ok.is) c.ask_changed-memory.ensures.says)

pub returns-in-Ok-clause-reads : goal.returns-in-Ok-clause-reads
returns-in-Ok-clause-reads g c = record {
  stays = c.ask_changed-memory.ensures.stays;
  cause = left-quiet (length c.args.audit.now.types.now.records) c.ask_changed-memory.result.answer c.in-Ok.seen c.left_of.result _ _ (sym c.unwrap_or.ensures ∙ c.in-Ok.is) c.ask_changed-memory.ensures.leaves c.left_of.ensures.cause;
}

pub returns-in-Ok-clause-inside : goal.returns-in-Ok-clause-inside
returns-in-Ok-clause-inside g c =
    left-inside (length c.args.audit.now.types.now.records) c.ask_changed-memory.result.answer c.in-Ok.seen c.args.earlier.now c.left_of.result _ _
    (sym c.unwrap_or.ensures ∙ c.in-Ok.is) c.ask_changed-memory.ensures.leaves c.left_of.ensures.exact
