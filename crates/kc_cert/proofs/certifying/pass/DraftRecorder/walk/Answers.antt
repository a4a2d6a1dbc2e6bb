use Rattle.std.proofs.Common.{rules, ◌≡◌}
use Rattle.std.specs.Prelude.{Err}
use Rattle.kc_found.specs.declared.found.WalkStop.TheVariants as ends
use Rattle.kc_plan.specs.Planned.{audit_seen}
use Rattle.kc_plan.specs.Views.{plan_seen}
use Rattle.kc_run.specs.Parts.{Look}
use Rattle.kc_cert.proofs.CertifyingLemmas.Passing.{no_memory, walk_drafts, walk_stops}
use Rattle.kc_cert.proofs.certifying.pass.DraftRecorder.walk.Goals as goal

pub returns-clause-goes : goal.returns-clause-goes
returns-clause-goes g c = λ z r d.
    walk_drafts c.know_walked.ensures.walked (g.S.Space.image c.args.space.now) (plan_seen c.args.known.now.plan.now) (audit_seen c.args.audit.now) c.args.asked.now.audit c.args.asked.now.start c.len.result c.in_ok-lists.lists c.in_ok-nodes.nodes c.args.self.now c.add_step.new.draft z r
    c.in_ok-nodes.ensures c.in_ok-add_step.ensures.made c.len.ensures c.in_ok-add_step.ensures.counts c.in_ok-lists.ensures.shape d

pub returns-in_err-lists-clause-stops : goal.returns-in_err-lists-clause-stops
returns-in_err-lists-clause-stops g c =
    let ended : c.from_residual.result ≡ Err c.in_err-lists.field-0.0 = search rules in
    rw ended (walk_stops (g.S.Space.image c.args.space.now) (plan_seen c.args.known.now.plan.now) (audit_seen c.args.audit.now) c.args.asked.now.audit c.args.asked.now.start c.args.self.now c.in_err-lists.field-0.0 c.in_err-lists.ensures.shape)

pub returns-in_err-nodes-clause-stops : goal.returns-in_err-nodes-clause-stops
returns-in_err-nodes-clause-stops g c =
    let ended : c.from_residual-in_err-nodes.result ≡ Err ends.NoMemory = search rules in
    rw ended (no_memory (g.S.Space.image c.args.space.now) (plan_seen c.args.known.now.plan.now) (Look c.args.asked.now.audit (audit_seen c.args.audit.now) c.args.asked.now.start) c.args.self.now c.args.self.now)

pub returns-in_err-add_step-clause-stops : goal.returns-in_err-add_step-clause-stops
returns-in_err-add_step-clause-stops g c =
    let ended : c.from_residual-in_err-add_step.result ≡ Err ends.NoMemory = search rules in
    rw ended (no_memory (g.S.Space.image c.args.space.now) (plan_seen c.args.known.now.plan.now) (Look c.args.asked.now.audit (audit_seen c.args.audit.now) c.args.asked.now.start) c.args.self.now c.add_step.new.draft)
