use Rattle.std.proofs.Common.{◌≡◌, length}
use Rattle.kc_memory.specs.Stays.{SpaceStays}
use Rattle.kc_plan.specs.Views.{plan_seen}
use Rattle.kc_run.proofs.Parts.{RootsLead}
use Rattle.kc_run.proofs.nest.enter_roots.Given as goal

abbrev pub invariant-loop-number : goal.invariant-loop-number
invariant-loop-number g l = record {
  leads : RootsLead g.R.Recorder.Means (g.S.Space.image l.fn.space) (plan_seen l.known.plan.now) l.number l.fn.recorder l.recorder;
  stays : SpaceStays g.S.Space.image g.S.Space.files g.S.Space.through g.S.Space.most l.fn.space l.space;
  cause : g.S.Space.faults l.space ≡ g.S.Space.faults l.fn.space;
  ready : g.R.Recorder.Ready (length l.known.plan.now.audits) l.recorder;
}
