use Rattle.std.proofs.Common.{arith, length, sym, ◌∙◌}
use Rattle.std.proofs.lemmas.List.{length-map}
use Rattle.kc_plan.specs.Planned.{audit_seen}
use Rattle.kc_plan.specs.Roots.{reached_from}
use Rattle.kc_plan.specs.Views.{plan_seen}
use Rattle.kc_run.proofs.RootLaws.{reach_ends, reach_goes, reach_passes, reached_below}
use Rattle.kc_run.proofs.each.reached_from.Goals as goal
use Rattle.kc_run.proofs.each.reached_from.Goals.{then-is_among+in_ok-push-2+in_ok-push_all, else-is_among}

pub loop-number-preserved : goal.loop-number-preserved
loop-number-preserved c = elim c.if-is_among.branch [
  | then-is_among+in_ok-push-2+in_ok-push_all w ↦
      rw (w.some-is, w.audits-is) (reach_goes (plan_seen c.args.plan.now) (audit_seen w.audit.result.now) c.loop-number.number c.loop-number.some w.push_all.new.numbers c.loop-number.audits w.push-then-is_among.new.self (reached_from c.args.root (plan_seen c.args.plan.now))
      w.audit.ensures.seen (sym c.is_among.ensures ∙ w.if-is_among.true) w.in_ok-push_all.ensures w.in_ok-push-2.ensures.added c.loop-number.invariant)
  | else-is_among w ↦
      rw (w.some-is, w.audits-is) (reach_passes (plan_seen c.args.plan.now) c.loop-number.number c.loop-number.some c.loop-number.audits (reached_from c.args.root (plan_seen c.args.plan.now))
      (omega (arith, length-map c.args.plan.now.audits audit_seen, c.count-number-end.ensures.count, c.loop-number-test.true)) (sym c.is_among.ensures ∙ w.if-is_among.false) c.loop-number.invariant)
]

pub returns-clause-below : goal.returns-clause-below
returns-clause-below c =
    reached_below c.args.root (length c.args.plan.now.audits) (plan_seen c.args.plan.now) c.loop-number.audits (sym (length-map c.args.plan.now.audits audit_seen))
    (reach_ends (plan_seen c.args.plan.now) c.loop-number.number c.loop-number.some c.loop-number.audits (reached_from c.args.root (plan_seen c.args.plan.now))
    (omega (arith, length-map c.args.plan.now.audits audit_seen, c.count-number-end.ensures.count, c.loop-number-test.false)) c.loop-number.invariant)
