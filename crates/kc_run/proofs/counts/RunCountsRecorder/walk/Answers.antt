use Rattle.std.proofs.Common.{rules, ◌≡◌, List, ℕ}
use Rattle.std.specs.Prelude.{Err}
use Rattle.kc_plan.specs.Planned.{audit_seen}
use Rattle.kc_plan.specs.Views.{plan_seen}
use Rattle.kc_run.proofs.Tallying.{look_goes, look_stops}
use Rattle.kc_run.proofs.counts.RunCountsRecorder.walk.Goals as goal

pub returns-clause-goes : goal.returns-clause-goes
returns-clause-goes g c = λ z r rest.
    look_goes (g.S.Space.image c.args.space.now) (plan_seen c.args.known.now.plan.now) (audit_seen c.args.audit.now) c.args.asked.now.audit c.args.asked.now.start c.len.result c.args.self.now.counts c.count_walk.new.counts z.counts c.in_ok-nodes.nodes r
    c.len.ensures c.count_walk.ensures.added c.in_ok-nodes.ensures.walk rest

pub returns-in_err-nodes-clause-stops : goal.returns-in_err-nodes-clause-stops
returns-in_err-nodes-clause-stops g c =
    let ended : c.from_residual.result ≡ Err c.in_err-nodes.field-0.0 = search rules in
    rw ended (look_stops (List ℕ) (λ ns. ns) (g.S.Space.image c.args.space.now) (plan_seen c.args.known.now.plan.now) (audit_seen c.args.audit.now) c.args.asked.now.audit c.args.asked.now.start c.args.self.now.counts c.in_err-nodes.field-0.0 c.in_err-nodes.ensures.walk)
