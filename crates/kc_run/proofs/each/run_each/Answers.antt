use Rattle.std.proofs.Common.{arith, length, refl, ◌∙◌}
use Rattle.std.proofs.lemmas.List.{length-map}
use Rattle.kc_memory.specs.Stays.{stays_on}
use Rattle.kc_plan.specs.Planned.{audit_seen}
use Rattle.kc_plan.specs.Seen.{roots}
use Rattle.kc_plan.specs.Views.{plan_seen}
use Rattle.kc_run.proofs.RootLaws.{each_exact, each_fits, each_root, each_stands, roots_add, roots_begin, roots_end}
use Rattle.kc_run.proofs.each.run_each.Goals as goal

pub loop-number-init : goal.loop-number-init
loop-number-init g c = (
  roots_begin (g.S.Space.image c.args.space.now) (length c.args.plan.now.audits) (plan_seen c.args.plan.now) (roots 0 (plan_seen c.args.plan.now)) c.new-verdicts.result c.new-verdicts.ensures,
  record { same_image = refl; same_files = refl; same_through = refl; same_most = refl },
  refl,
)

pub loop-number-preserved : goal.loop-number-preserved
loop-number-preserved g c = (
  roots_add (g.S.Space.image c.args.space.now) (length c.args.plan.now.audits) (plan_seen c.args.plan.now) (audit_seen c.audit.result.now) c.loop-number.number (roots 0 (plan_seen c.args.plan.now)) c.loop-number.verdicts c.add_root.new.verdicts
      c.audit.ensures.seen (rw c.loop-number.invariant.1.same_image at c.in_ok-add_root.ensures.added) c.loop-number.invariant.0,
  stays_on _ _ _ _ c.args.space.now c.loop-number.space c.add_root.new.space c.loop-number.invariant.1 c.in_ok-add_root.ensures.stays,
  c.in_ok-add_root.ensures.cause ∙ c.loop-number.invariant.2,
)

pub returns-clause-exact : goal.returns-clause-exact
returns-clause-exact g c =
    each_exact (g.S.Space.image c.args.space.now) (length c.args.plan.now.audits) (plan_seen c.args.plan.now) (roots 0 (plan_seen c.args.plan.now)) c.loop-number.verdicts
    (roots_end (g.S.Space.image c.args.space.now) (length c.args.plan.now.audits) (plan_seen c.args.plan.now) c.loop-number.number (roots 0 (plan_seen c.args.plan.now)) c.loop-number.verdicts
    (omega (arith, length-map c.args.plan.now.audits audit_seen, c.count-number-end.ensures.count, c.loop-number-test.false)) c.loop-number.invariant.0)

pub returns-clause-stands : goal.returns-clause-stands
returns-clause-stands g c =
    each_stands c.know_verdicts.ensures.roots (g.S.Space.image c.args.space.now) (length c.args.plan.now.audits) (plan_seen c.args.plan.now) (roots 0 (plan_seen c.args.plan.now)) c.loop-number.verdicts
    (roots_end (g.S.Space.image c.args.space.now) (length c.args.plan.now.audits) (plan_seen c.args.plan.now) c.loop-number.number (roots 0 (plan_seen c.args.plan.now)) c.loop-number.verdicts
    (omega (arith, length-map c.args.plan.now.audits audit_seen, c.count-number-end.ensures.count, c.loop-number-test.false)) c.loop-number.invariant.0)

pub returns-clause-roots : goal.returns-clause-roots
returns-clause-roots g c =
    each_root (g.S.Space.image c.args.space.now) (length c.args.plan.now.audits) (plan_seen c.args.plan.now) (roots 0 (plan_seen c.args.plan.now)) c.loop-number.verdicts
    (roots_end (g.S.Space.image c.args.space.now) (length c.args.plan.now.audits) (plan_seen c.args.plan.now) c.loop-number.number (roots 0 (plan_seen c.args.plan.now)) c.loop-number.verdicts
    (omega (arith, length-map c.args.plan.now.audits audit_seen, c.count-number-end.ensures.count, c.loop-number-test.false)) c.loop-number.invariant.0)

pub returns-clause-fits : goal.returns-clause-fits
returns-clause-fits g c =
    each_fits (g.S.Space.image c.args.space.now) (length c.args.plan.now.audits) (plan_seen c.args.plan.now) c.loop-number.verdicts
    (omega (arith, length-map c.args.plan.now.audits audit_seen, c.args.plan.now.few))
    (roots_end (g.S.Space.image c.args.space.now) (length c.args.plan.now.audits) (plan_seen c.args.plan.now) c.loop-number.number (roots 0 (plan_seen c.args.plan.now)) c.loop-number.verdicts
    (omega (arith, length-map c.args.plan.now.audits audit_seen, c.count-number-end.ensures.count, c.loop-number-test.false)) c.loop-number.invariant.0)
