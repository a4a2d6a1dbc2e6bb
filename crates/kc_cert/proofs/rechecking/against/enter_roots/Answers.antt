use Rattle.std.proofs.Common.{◌∙◌, arith, rules, ◌≡◌, Err}
use Rattle.kc_memory.specs.Stays.{stays_on}
use Rattle.kc_plan.specs.Planned.{audit_seen}
use Rattle.kc_plan.specs.Views.{plan_seen}
use Rattle.kc_cert.specs.Rechecking.Answers.{progress}
use Rattle.kc_cert.specs.Rechecking.Certificates.{roots_judged}
use Rattle.kc_cert.proofs.RecheckingLemmas.Judging.{roots_go, roots_halt}
use Rattle.kc_cert.proofs.rechecking.against.enter_roots.Goals as goal

pub returns-in_err-enter_root-clause-judged : goal.returns-in_err-enter_root-clause-judged
returns-in_err-enter_root-clause-judged g c =
    let ended : c.from_residual.result ≡ Err c.in_err-enter_root.field-0.0 = search rules in
    rw ended (roots_halt _ _ (g.S.Space.image c.args.space.now) (progress c.args.known.now.cert.now c.args.cursor.now) (progress c.args.known.now.cert.now c.loop-number.cursor) (progress c.args.known.now.cert.now c.enter_root.new.cursor) (λ i. roots_judged i (plan_seen c.args.known.now.plan.now)) (plan_seen c.args.known.now.plan.now) (audit_seen c.audit.result.now) c.loop-number.number c.in_err-enter_root.field-0.0
    c.audit.ensures.seen c.loop-number.invariant.0 (rw c.loop-number.invariant.1.same_image at c.in_err-enter_root.ensures.judged))

pub loop-number-preserved : goal.loop-number-preserved
loop-number-preserved g c = (
  roots_go (g.S.Space.image c.args.space.now) (progress c.args.known.now.cert.now c.args.cursor.now) (progress c.args.known.now.cert.now c.loop-number.cursor) (progress c.args.known.now.cert.now c.enter_root.new.cursor) (λ i. roots_judged i (plan_seen c.args.known.now.plan.now)) (plan_seen c.args.known.now.plan.now) (audit_seen c.audit.result.now) c.loop-number.number c.in_ok-enter_root.field-0
      c.audit.ensures.seen c.loop-number.invariant.0 (rw c.loop-number.invariant.1.same_image at c.in_ok-enter_root.ensures.judged),
  stays_on _ _ _ _ c.args.space.now c.loop-number.space c.enter_root.new.space c.loop-number.invariant.1 c.in_ok-enter_root.ensures.stays,
  c.in_ok-enter_root.ensures.cause ∙ c.loop-number.invariant.2,
  c.in_ok-enter_root.ensures.counted ∙ c.loop-number.invariant.3,
  omega (arith, c.in_ok-enter_root.ensures.steps, c.loop-number.invariant.4),
)
