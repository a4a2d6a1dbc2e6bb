use Rattle.std.proofs.Common.{◌≡◌, length, drop}
use Rattle.kc_memory.specs.Stays.{SpaceStays}
use Rattle.kc_plan.specs.Seen.{roots}
use Rattle.kc_plan.specs.Views.{plan_seen}
use Rattle.kc_run.proofs.RootLaws.{AreRoots}
use Rattle.kc_run.proofs.each.run_each.Given as goal

abbrev pub invariant-loop-number : goal.invariant-loop-number
invariant-loop-number g l =
    AreRoots (g.S.Space.image l.fn.space) (length l.plan.audits) (plan_seen l.plan) (roots 0 (plan_seen l.plan)) (roots l.number (drop l.number (plan_seen l.plan))) l.verdicts
    × SpaceStays g.S.Space.image g.S.Space.files g.S.Space.through g.S.Space.most l.fn.space l.space
    × (g.S.Space.faults l.space ≡ g.S.Space.faults l.fn.space)
