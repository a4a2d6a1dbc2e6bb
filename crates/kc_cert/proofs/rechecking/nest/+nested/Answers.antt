use Rattle.std.proofs.Common.{arith, subst, ◌∙◌, length, refl, sym, ap, List, ℕ, slice_get, ◌+◌, rules, ◌≡◌, Err}
use Rattle.std.proofs.lemmas.List.{length-map}
use Rattle.std.proofs.lemmas.Option.{get_or_from_slice_get}
use Rattle.kc_plan.specs.Inside.{IsInside}
use Rattle.kc_memory.specs.Stays.{stays_on}
use Rattle.kc_view.specs.Typed.{Typed}
use Rattle.kc_plan.specs.Planned.{audit_seen}
use Rattle.kc_plan.specs.Views.{plan_seen}
use Rattle.kc_run.proofs.Going.{between_goes, between_here}
use Rattle.kc_cert.specs.Rechecking.Answers.{progress}
use Rattle.kc_cert.proofs.RecheckingLemmas.Few.{each_few}
use Rattle.kc_cert.proofs.RecheckingLemmas.Judging.{elements_judged, enter_breaks, enter_goes, enter_misses, enter_skips, looked, node_judged, step_goes, step_halts, turn_goes, turn_halts, under}
use Rattle.kc_cert.proofs.RecheckingLemmas.Spending.{below_pays, few_nodes, halt_pays, size_at, step_pays}
use Rattle.kc_cert.proofs.rechecking.nest.+nested.Goals as goal

pub enter-returns-in-Ok-At-clause-judged : goal.enter-returns-in-Ok-At-clause-judged
enter-returns-in-Ok-At-clause-judged g t c =
    enter_goes (g.S.Space.image c.args.space.now) (plan_seen c.args.known.now.plan.now) (length c.args.known.now.plan.now.audits) (audit_seen c.audit-audit.result.now) c.new-view.result c.in-Ok-At.start c.path_of-to.result.now c.args.base.now.audit c.args.base.now.start c.at.result (progress c.args.known.now.cert.now c.args.cursor.now) (progress c.args.known.now.cert.now c.look.new.cursor) c.look.result
    c.audit-audit.ensures.seen c.args.known.now.plan.now.later (ap (λ (v : Typed). v.at) c.new-view.ensures) c.path_of-to.ensures.path c.at.ensures (rw c.in-Ok-At.field-0-is at c.in-Ok-At.ensures.exact) (rw c.in-Ok-At.ensures.stays.same_image at c.look.ensures.judged)

pub enter-returns-then-is_optional-clause-judged : goal.enter-returns-then-is_optional-clause-judged
enter-returns-then-is_optional-clause-judged g t c =
    enter_skips (g.S.Space.image c.args.space.now) (plan_seen c.args.known.now.plan.now) (length c.args.known.now.plan.now.audits) (audit_seen c.audit-audit.result.now) c.new-view.result c.path_of-to.result.now _ _ c.args.base.now.audit c.args.base.now.start (progress c.args.known.now.cert.now c.args.cursor.now) tt
    c.audit-audit.ensures.seen c.args.known.now.plan.now.later (ap (λ (v : Typed). v.at) c.new-view.ensures) c.path_of-to.ensures.path (rw c.in-Ok-Null.field-0-is at c.in-Ok-Null.ensures.exact) (sym c.if-is_optional.ensures)

pub enter-returns-else-is_optional-clause-judged : goal.enter-returns-else-is_optional-clause-judged
enter-returns-else-is_optional-clause-judged g t c =
    enter_breaks _ (g.S.Space.image c.args.space.now) (plan_seen c.args.known.now.plan.now) (length c.args.known.now.plan.now.audits) (audit_seen c.audit-audit.result.now) c.new-view.result c.path_of-to.result.now _ _ c.args.base.now.audit c.args.base.now.start (progress c.args.known.now.cert.now c.args.cursor.now)
    c.audit-audit.ensures.seen c.args.known.now.plan.now.later (ap (λ (v : Typed). v.at) c.new-view.ensures) c.path_of-to.ensures.path (rw c.in-Ok-Null.field-0-is at c.in-Ok-Null.ensures.exact) (sym c.if-is_optional.ensures)

pub enter-returns-in-Err-Miss-clause-judged : goal.enter-returns-in-Err-Miss-clause-judged
enter-returns-in-Err-Miss-clause-judged g t c =
    enter_misses _ (g.S.Space.image c.args.space.now) (plan_seen c.args.known.now.plan.now) (length c.args.known.now.plan.now.audits) (audit_seen c.audit-audit.result.now) c.new-view.result c.path_of-to.result.now c.args.base.now.audit c.args.base.now.start (progress c.args.known.now.cert.now c.args.cursor.now) _
    c.audit-audit.ensures.seen c.args.known.now.plan.now.later (ap (λ (v : Typed). v.at) c.new-view.ensures) c.path_of-to.ensures.path (rw c.in-Err-Miss.field-0-is at c.in-Err-Miss.ensures.exact)

pub enter-look-requires : goal.enter-look-requires
enter-look-requires g t c κs within = (
  omega (arith, c.decreases, c.requires.inside),
  (
    within.0,
    (
      within.1,
      (
        c.requires.inside,
        (
          c.requires.types,
          (
            c.requires.counted,
            (
              c.audit-audit.ensures.later,
              (
                each_few (plan_seen c.args.known.now.plan.now) c.args.base.now.audit c.args.base.now.audit (audit_seen c.audit-audit.result.now) c.audit-audit.ensures.seen (rw (sym (length-map c.args.known.now.plan.now.audits audit_seen)) at c.audit-audit.ensures.later) c.args.known.now.plan.now.once (omega (arith, length-map c.args.known.now.plan.now.audits audit_seen, c.args.known.now.plan.now.few)),
                (subst (IsInside (length c.args.known.now.btf.now.records)) (get_or_from_slice_get c.args.known.now.plan.now.audits c.args.base.now.audit c.audit-audit.result.now c.audit-audit.result.now c.audit-audit.ensures.at) (c.requires.types c.args.base.now.audit c.audit-audit.result.now c.requires.inside)).kind,
              ),
            ),
          ),
        ),
      ),
    ),
  ),
)

pub look-returns-in_err-test_step-clause-judged : goal.look-returns-in_err-test_step-clause-judged
look-returns-in_err-test_step-clause-judged g t c =
    let ended : c.from_residual.result ≡ Err c.in_err-test_step.field-0.0 = search rules in
    rw ended (step_halts _ _ (g.S.Space.image c.args.space.now) (plan_seen c.args.known.now.plan.now) (audit_seen c.args.audit.now) c.args.asked.now.audit c.args.asked.now.start c.args.known.now.cert.now c.args.cursor.now c.get-step.result.now c.in_err-test_step.field-0.0
    c.get-step.ensures c.in_err-test_step.ensures.test)

pub look-returns-in_err-test_step-clause-steps : goal.look-returns-in_err-test_step-clause-steps
look-returns-in_err-test_step-clause-steps g t c =
    let ended : c.from_residual.result ≡ Err c.in_err-test_step.field-0.0 = search rules in
    rw ended (halt_pays c.args.steps.now c.test_step.new.steps _ _ _ _ c.in_err-test_step.ensures.steps (size_at c.args.known.now.cert.now c.args.cursor.now.at c.get-step.result.now c.get-step.ensures)
    (few_nodes c.know_walked.ensures.long c.args.audit.now.kind c.get-step.result.now.lists c.in-Ok.nodes c.in-Ok.ensures))

pub look-loop-i-init : goal.look-loop-i-init
look-loop-i-init g t c = (
  step_goes (g.S.Space.image c.args.space.now) (plan_seen c.args.known.now.plan.now) (audit_seen c.args.audit.now) c.args.asked.now.audit c.args.asked.now.start c.args.known.now.cert.now c.args.cursor.now (record { at = c.args.cursor.now.at + 1; counts = c.count_walk.new.counts }) c.get-step.result.now c.nodes.inside.items.items c.len-2.result tt
      c.get-step.ensures (c.nodes.view_is ∙ c.in-Ok.ensures) (c.len-2.ensures ∙ ap (λ (xs : List ℕ). length xs) (sym c.nodes.view_is)) refl c.count_walk.ensures.added c.in_ok-test_step.ensures.test,
  c.in_ok-test_step.ensures.stays,
  c.in_ok-test_step.ensures.cause,
  c.count_walk.ensures.size,
  step_pays c.args.steps.now c.test_step.new.steps _ _ _ _ _ (ap (λ (xs : List ℕ). length xs) c.nodes.view_is) c.in_ok-test_step.ensures.steps (size_at c.args.known.now.cert.now c.args.cursor.now.at c.get-step.result.now c.get-step.ensures)
      (few_nodes c.know_walked.ensures.long c.args.audit.now.kind c.get-step.result.now.lists c.in-Ok.nodes c.in-Ok.ensures),
)

pub look-returns-in_err-look_below-clause-judged : goal.look-returns-in_err-look_below-clause-judged
look-returns-in_err-look_below-clause-judged g t c =
    let ended : c.from_residual-in_err-look_below.result ≡ Err c.in_err-look_below.field-0.0 = search rules in
    rw ended (turn_halts _ _ (g.S.Space.image c.args.space.now) (progress c.args.known.now.cert.now c.args.cursor.now) (progress c.args.known.now.cert.now c.loop-i.cursor) (progress c.args.known.now.cert.now c.look_below.new.cursor) (looked (plan_seen c.args.known.now.plan.now) (audit_seen c.args.audit.now) c.args.asked.now.audit c.args.asked.now.start) (node_judged (plan_seen c.args.known.now.plan.now) (audit_seen c.args.audit.now)) c.nodes.inside.items.items c.loop-i.i c.get.result.now c.in_err-look_below.field-0.0
    (ap (λ (xs : List ℕ). slice_get xs c.loop-i.i) c.nodes.view_is ∙ c.get.ensures) c.loop-i.invariant.0 (rw (c.loop-i.invariant.1.same_image, c.container_of-element.ensures) at c.in_err-look_below.ensures.judged))

pub look-loop-i-preserved : goal.look-loop-i-preserved
look-loop-i-preserved g t c = (
  turn_goes (g.S.Space.image c.args.space.now) (progress c.args.known.now.cert.now c.args.cursor.now) (progress c.args.known.now.cert.now c.loop-i.cursor) (progress c.args.known.now.cert.now c.look_below.new.cursor) (looked (plan_seen c.args.known.now.plan.now) (audit_seen c.args.audit.now) c.args.asked.now.audit c.args.asked.now.start) (node_judged (plan_seen c.args.known.now.plan.now) (audit_seen c.args.audit.now)) c.nodes.inside.items.items c.loop-i.i c.get.result.now c.in_ok-look_below.field-0
      (ap (λ (xs : List ℕ). slice_get xs c.loop-i.i) c.nodes.view_is ∙ c.get.ensures) c.loop-i.invariant.0 (rw (c.loop-i.invariant.1.same_image, c.container_of-element.ensures) at c.in_ok-look_below.ensures.judged),
  stays_on _ _ _ _ c.args.space.now c.loop-i.space c.look_below.new.space c.loop-i.invariant.1 c.in_ok-look_below.ensures.stays,
  c.in_ok-look_below.ensures.cause ∙ c.loop-i.invariant.2,
  c.in_ok-look_below.ensures.counted ∙ c.loop-i.invariant.3,
  below_pays c.args.steps.now c.loop-i.steps c.look_below.new.steps _ _ _ _ c.loop-i.i (omega (arith, c.loop-i-test.true, c.len-i-end.ensures, ap (λ (xs : List ℕ). length xs) c.nodes.view_is)) c.loop-i.invariant.4 c.in_ok-look_below.ensures.steps,
)

pub look_below-returns-in_err-enter-clause-judged : goal.look_below-returns-in_err-enter-clause-judged
look_below-returns-in_err-enter-clause-judged g t c =
    let ended : c.from_residual.result ≡ Err c.in_err-enter.field-0.0 = search rules in
    rw ended (turn_halts _ _ (g.S.Space.image c.args.space.now) (progress c.args.known.now.cert.now c.args.cursor.now) (progress c.args.known.now.cert.now c.loop-i.cursor) (progress c.args.known.now.cert.now c.enter.new.cursor) (elements_judged (plan_seen c.args.known.now.plan.now) (audit_seen c.args.audit.now) c.args.element) (λ m n. under m (plan_seen c.args.known.now.plan.now) n c.args.element) c.args.audit.now.each c.loop-i.i c.get.result.now c.in_err-enter.field-0.0
    c.get.ensures c.loop-i.invariant.0 (rw c.loop-i.invariant.1.same_image at c.in_err-enter.ensures.judged))

pub look_below-loop-i-preserved : goal.look_below-loop-i-preserved
look_below-loop-i-preserved g t c = (
  turn_goes (g.S.Space.image c.args.space.now) (progress c.args.known.now.cert.now c.args.cursor.now) (progress c.args.known.now.cert.now c.loop-i.cursor) (progress c.args.known.now.cert.now c.enter.new.cursor) (elements_judged (plan_seen c.args.known.now.plan.now) (audit_seen c.args.audit.now) c.args.element) (λ m n. under m (plan_seen c.args.known.now.plan.now) n c.args.element) c.args.audit.now.each c.loop-i.i c.get.result.now c.in_ok-enter.field-0
      c.get.ensures c.loop-i.invariant.0 (rw c.loop-i.invariant.1.same_image at c.in_ok-enter.ensures.judged),
  stays_on _ _ _ _ c.args.space.now c.loop-i.space c.enter.new.space c.loop-i.invariant.1 c.in_ok-enter.ensures.stays,
  c.in_ok-enter.ensures.cause ∙ c.loop-i.invariant.2,
  c.in_ok-enter.ensures.counted ∙ c.loop-i.invariant.3,
  between_goes c.args.asked.now.audit (length c.args.known.now.plan.now.audits) c.args.audit.now.each c.loop-i.i c.get.result.now c.get.ensures c.loop-i.invariant.4,
  omega (arith, c.in_ok-enter.ensures.steps, c.loop-i.invariant.5),
)

pub look_below-enter-requires : goal.look_below-enter-requires
look_below-enter-requires g t c κs within =
    let here = between_here c.args.asked.now.audit (length c.args.known.now.plan.now.audits) c.args.audit.now.each c.loop-i.i c.get.result.now c.get.ensures c.loop-i.invariant.4 in
    (omega (arith, c.decreases, here.0, here.1), (within.0, (within.1, (here.1, (c.requires.types, c.loop-i.invariant.3 ∙ c.requires.counted)))))
