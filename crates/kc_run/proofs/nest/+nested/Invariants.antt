use Rattle.std.proofs.Common.{◌≡◌, length, ◌-◌, ◌*◌, drop, true}
use Rattle.kc_memory.specs.Stays.{SpaceStays}
use Rattle.kc_plan.specs.Kept.{are_between}
use Rattle.kc_plan.specs.Planned.{audit_seen}
use Rattle.kc_plan.specs.Views.{plan_seen}
use Rattle.kc_run.specs.Parts.{Element, Look, below_part, elements_part}
use Rattle.kc_run.proofs.Parts.{Leads}
use Rattle.kc_run.proofs.nest.+nested.Given as goal

abbrev pub decreases-enter : goal.decreases-enter
decreases-enter g l = 3 * (length l.known.now.plan.now.audits - l.base.now.audit)

abbrev pub decreases-look : goal.decreases-look
decreases-look g l = 3 * (length l.known.now.plan.now.audits - l.asked.now.audit) - 1

abbrev pub decreases-look_below : goal.decreases-look_below
decreases-look_below g l = 3 * (length l.known.now.plan.now.audits - l.asked.now.audit) - 2

abbrev pub invariant-look-loop-i : goal.invariant-look-loop-i
invariant-look-loop-i g l = record {
  leads : Leads g.R.Recorder.Means (g.S.Space.image l.fn.space) (plan_seen l.known.plan.now) (Look l.asked.audit (audit_seen l.audit) l.asked.start)
      (elements_part l.asked.audit (audit_seen l.audit) l.asked.start (drop l.i l.nodes-inside.items.items)) l.fn.recorder l.recorder;
  stays : SpaceStays g.S.Space.image g.S.Space.files g.S.Space.through g.S.Space.most l.fn.space l.space;
  cause : g.S.Space.faults l.space ≡ g.S.Space.faults l.fn.space;
  ready : g.R.Recorder.Ready (length l.known.plan.now.audits) l.recorder;
}

abbrev pub invariant-look_below-loop-i : goal.invariant-look_below-loop-i
invariant-look_below-loop-i g l = record {
  leads : Leads g.R.Recorder.Means (g.S.Space.image l.fn.space) (plan_seen l.known.plan.now) (Element l.asked.audit (audit_seen l.audit) l.asked.start l.element)
      (below_part (drop l.i l.audit.each) l.element) l.fn.recorder l.recorder;
  stays : SpaceStays g.S.Space.image g.S.Space.files g.S.Space.through g.S.Space.most l.fn.space l.space;
  cause : g.S.Space.faults l.space ≡ g.S.Space.faults l.fn.space;
  ready : g.R.Recorder.Ready (length l.known.plan.now.audits) l.recorder;
  later : are_between l.asked.audit (length l.known.plan.now.audits) (drop l.i l.audit.each) ≡ true;
}
