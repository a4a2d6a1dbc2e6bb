use Rattle.std.proofs.Common.{arith, ◌∙◌, length, sym, ap, List, ℕ, slice_get, rules, ◌≡◌}
use Rattle.std.specs.Prelude.{Ok, Err}
use Rattle.kc_memory.specs.Stays.{stays_on}
use Rattle.kc_view.specs.declared.view.Led.TheVariants.{At, Null}
use Rattle.kc_view.specs.Typed.{Typed}
use Rattle.kc_plan.specs.Planned.{audit_seen}
use Rattle.kc_plan.specs.Seen.{container_of}
use Rattle.kc_plan.specs.Views.{plan_seen}
use Rattle.kc_run.specs.Parts.{Element, Enter, Look}
use Rattle.kc_run.proofs.Going.{between_goes, between_here}
use Rattle.kc_run.proofs.Parts.{begins, part_ends, part_goes}
use Rattle.kc_run.proofs.nest.+nested.Goals as goal

pub enter-returns-in-Ok-At-clause-means : goal.enter-returns-in-Ok-At-clause-means
enter-returns-in-Ok-At-clause-means g t c =
    c.know_parts.ensures.leads (g.S.Space.image c.args.space.now) (plan_seen c.args.known.now.plan.now) c.args.base.now.audit (audit_seen c.audit-audit.result.now) c.args.base.now.start c.at.result c.args.recorder.now c.look.new.recorder c.look.result
    (rw c.at.ensures (begins (g.S.Space.image c.args.space.now) (plan_seen c.args.known.now.plan.now) (length c.args.known.now.plan.now.audits) (audit_seen c.audit-audit.result.now) c.new-view.result c.path_of-to.result.now c.args.base.now.audit c.args.base.now.start (Ok (At c.in-Ok-At.start))
    c.audit-audit.ensures.seen c.args.known.now.plan.now.later (ap (λ (v : Typed). v.at) c.new-view.ensures) c.path_of-to.ensures.path (rw c.in-Ok-At.field-0-is at c.in-Ok-At.ensures.exact)))
    (rw c.in-Ok-At.ensures.stays.same_image at c.look.ensures.means)

pub enter-returns-then-is_optional-clause-means : goal.enter-returns-then-is_optional-clause-means
enter-returns-then-is_optional-clause-means g t c =
    c.know_parts.ensures.skips (g.S.Space.image c.args.space.now) (plan_seen c.args.known.now.plan.now) c.args.base.now.audit (audit_seen c.audit-audit.result.now) c.args.base.now.start c.in-Ok-Null.place c.in-Ok-Null.at c.args.recorder.now
    (begins (g.S.Space.image c.args.space.now) (plan_seen c.args.known.now.plan.now) (length c.args.known.now.plan.now.audits) (audit_seen c.audit-audit.result.now) c.new-view.result c.path_of-to.result.now c.args.base.now.audit c.args.base.now.start (Ok (Null c.in-Ok-Null.place c.in-Ok-Null.at))
    c.audit-audit.ensures.seen c.args.known.now.plan.now.later (ap (λ (v : Typed). v.at) c.new-view.ensures) c.path_of-to.ensures.path (rw c.in-Ok-Null.field-0-is at c.in-Ok-Null.ensures.exact)) (sym c.if-is_optional.ensures)

pub enter-returns-else-is_optional-clause-means : goal.enter-returns-else-is_optional-clause-means
enter-returns-else-is_optional-clause-means g t c =
    c.know_parts.ensures.breaks (g.S.Space.image c.args.space.now) (plan_seen c.args.known.now.plan.now) c.args.base.now.audit (audit_seen c.audit-audit.result.now) c.args.base.now.start c.in-Ok-Null.place c.in-Ok-Null.at c.args.recorder.now c.null_pointer.result
    (begins (g.S.Space.image c.args.space.now) (plan_seen c.args.known.now.plan.now) (length c.args.known.now.plan.now.audits) (audit_seen c.audit-audit.result.now) c.new-view.result c.path_of-to.result.now c.args.base.now.audit c.args.base.now.start (Ok (Null c.in-Ok-Null.place c.in-Ok-Null.at))
    c.audit-audit.ensures.seen c.args.known.now.plan.now.later (ap (λ (v : Typed). v.at) c.new-view.ensures) c.path_of-to.ensures.path (rw c.in-Ok-Null.field-0-is at c.in-Ok-Null.ensures.exact)) (sym c.if-is_optional.ensures) c.null_pointer.ensures

pub enter-returns-in-Err-clause-means : goal.enter-returns-in-Err-clause-means
enter-returns-in-Err-clause-means g t c =
    c.know_parts.ensures.misses (g.S.Space.image c.args.space.now) (plan_seen c.args.known.now.plan.now) c.args.base.now.audit (audit_seen c.audit-audit.result.now) c.args.base.now.start c.in-Err.stop c.args.recorder.now c.stopped.result
    (begins (g.S.Space.image c.args.space.now) (plan_seen c.args.known.now.plan.now) (length c.args.known.now.plan.now.audits) (audit_seen c.audit-audit.result.now) c.new-view.result c.path_of-to.result.now c.args.base.now.audit c.args.base.now.start (Err c.in-Err.stop)
    c.audit-audit.ensures.seen c.args.known.now.plan.now.later (ap (λ (v : Typed). v.at) c.new-view.ensures) c.path_of-to.ensures.path c.in-Err.ensures.exact) c.stopped.ensures

pub look-loop-i-init : goal.look-loop-i-init
look-loop-i-init g t c = record {
  leads = λ z r rest. c.in_ok-nodes.ensures.goes z r (rw c.nodes.view_is at rest);
  stays = c.in_ok-nodes.ensures.stays;
  cause = c.in_ok-nodes.ensures.cause;
  ready = c.in_ok-nodes.ensures.ready;
}

pub look-returns-in_err-look_below-clause-means : goal.look-returns-in_err-look_below-clause-means
look-returns-in_err-look_below-clause-means g t c =
    let ended : c.from_residual-in_err-look_below.result ≡ Err c.in_err-look_below.field-0.0 = search rules in
    rw ended (part_ends g.R.Recorder.Means c.know_parts.ensures (g.S.Space.image c.args.space.now) (plan_seen c.args.known.now.plan.now) (Look c.args.asked.now.audit (audit_seen c.args.audit.now) c.args.asked.now.start)
    (λ node. Element c.args.asked.now.audit (audit_seen c.args.audit.now) c.args.asked.now.start (container_of c.args.audit.now.link node)) c.nodes.inside.items.items c.loop-i.i c.get.result.now c.args.recorder.now c.loop-i.recorder c.look_below.new.recorder c.in_err-look_below.field-0.0
    (ap (λ (xs : List ℕ). slice_get xs c.loop-i.i) c.nodes.view_is ∙ c.get.ensures) c.loop-i.invariant.leads (rw (c.loop-i.invariant.stays.same_image, c.container_of-element.ensures) at c.in_err-look_below.ensures.means))

pub look-loop-i-preserved : goal.look-loop-i-preserved
look-loop-i-preserved g t c = record {
  leads = part_goes g.R.Recorder.Means c.know_parts.ensures (g.S.Space.image c.args.space.now) (plan_seen c.args.known.now.plan.now) (Look c.args.asked.now.audit (audit_seen c.args.audit.now) c.args.asked.now.start)
      (λ node. Element c.args.asked.now.audit (audit_seen c.args.audit.now) c.args.asked.now.start (container_of c.args.audit.now.link node)) c.nodes.inside.items.items c.loop-i.i c.get.result.now c.args.recorder.now c.loop-i.recorder c.look_below.new.recorder
      (ap (λ (xs : List ℕ). slice_get xs c.loop-i.i) c.nodes.view_is ∙ c.get.ensures) c.loop-i.invariant.leads (rw (c.loop-i.invariant.stays.same_image, c.container_of-element.ensures) at c.in_ok-look_below.ensures.means);
  stays = stays_on _ _ _ _ c.args.space.now c.loop-i.space c.look_below.new.space c.loop-i.invariant.stays c.in_ok-look_below.ensures.stays;
  cause = c.in_ok-look_below.ensures.cause ∙ c.loop-i.invariant.cause;
  ready = c.in_ok-look_below.ensures.ready;
}

pub look_below-returns-in_err-look_checks-clause-means : goal.look_below-returns-in_err-look_checks-clause-means
look_below-returns-in_err-look_checks-clause-means g t c =
    let ended : c.from_residual.result ≡ Err c.in_err-look_checks.field-0.0 = search rules in
    rw ended (c.know_parts.ensures.fails (g.S.Space.image c.args.space.now) (plan_seen c.args.known.now.plan.now) c.args.asked.now.audit (audit_seen c.args.audit.now) c.args.asked.now.start c.args.element c.args.recorder.now c.in_err-look_checks.field-0.0 c.in_err-look_checks.ensures.tally)

pub look_below-loop-i-init : goal.look_below-loop-i-init
look_below-loop-i-init g t c = record {
  leads = λ z r rest. c.know_parts.ensures.passes (g.S.Space.image c.args.space.now) (plan_seen c.args.known.now.plan.now) c.args.asked.now.audit (audit_seen c.args.audit.now) c.args.asked.now.start c.args.element c.args.recorder.now z r c.in_ok-look_checks.ensures.tally rest;
  stays = c.in_ok-look_checks.ensures.stays;
  cause = c.in_ok-look_checks.ensures.cause;
  ready = c.requires.ready;
  later = c.requires.later;
}

pub look_below-returns-in_err-enter-clause-means : goal.look_below-returns-in_err-enter-clause-means
look_below-returns-in_err-enter-clause-means g t c =
    let ended : c.from_residual-in_err-enter.result ≡ Err c.in_err-enter.field-0.0 = search rules in
    rw ended (part_ends g.R.Recorder.Means c.know_parts.ensures (g.S.Space.image c.args.space.now) (plan_seen c.args.known.now.plan.now) (Element c.args.asked.now.audit (audit_seen c.args.audit.now) c.args.asked.now.start c.args.element)
    (λ m. Enter m c.args.element) c.args.audit.now.each c.loop-i.i c.get.result.now c.args.recorder.now c.loop-i.recorder c.enter.new.recorder c.in_err-enter.field-0.0
    c.get.ensures c.loop-i.invariant.leads (rw c.loop-i.invariant.stays.same_image at c.in_err-enter.ensures.means))

pub look_below-loop-i-preserved : goal.look_below-loop-i-preserved
look_below-loop-i-preserved g t c = record {
  leads = part_goes g.R.Recorder.Means c.know_parts.ensures (g.S.Space.image c.args.space.now) (plan_seen c.args.known.now.plan.now) (Element c.args.asked.now.audit (audit_seen c.args.audit.now) c.args.asked.now.start c.args.element)
      (λ m. Enter m c.args.element) c.args.audit.now.each c.loop-i.i c.get.result.now c.args.recorder.now c.loop-i.recorder c.enter.new.recorder
      c.get.ensures c.loop-i.invariant.leads (rw c.loop-i.invariant.stays.same_image at c.in_ok-enter.ensures.means);
  stays = stays_on _ _ _ _ c.args.space.now c.loop-i.space c.enter.new.space c.loop-i.invariant.stays c.in_ok-enter.ensures.stays;
  cause = c.in_ok-enter.ensures.cause ∙ c.loop-i.invariant.cause;
  ready = c.in_ok-enter.ensures.ready;
  later = between_goes c.args.asked.now.audit (length c.args.known.now.plan.now.audits) c.args.audit.now.each c.loop-i.i c.get.result.now c.get.ensures c.loop-i.invariant.later;
}

pub look_below-enter-requires : goal.look_below-enter-requires
look_below-enter-requires g t c κs within =
    let here = between_here c.args.asked.now.audit (length c.args.known.now.plan.now.audits) c.args.audit.now.each c.loop-i.i c.get.result.now c.get.ensures c.loop-i.invariant.later in
    (omega (arith, c.decreases, here.0, here.1), (within.0, (within.1.0, (within.1.1, (here.1, (c.requires.types, c.loop-i.invariant.ready))))))
