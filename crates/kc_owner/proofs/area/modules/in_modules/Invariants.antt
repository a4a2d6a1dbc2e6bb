use Rattle.std.proofs.Common.{◌≡◌, ◌-◌, ◌≤◌, drop, length}
use Rattle.kc_memory.specs.Stays.{SpaceStays}
use Rattle.kc_view.specs.TaskLists.{task_of}
use Rattle.kc_owner.specs.Area.Modules.{in_module}
use Rattle.kc_owner.proofs.AreaLemmas.Finding.{Left}
use Rattle.kc_owner.proofs.area.modules.in_modules.Given as goal

abbrev pub invariant-loop-i : goal.invariant-loop-i
invariant-loop-i g l = record {
  left : Left (g.S.Space.image l.fn.space) (λ i node. in_module i l.pass.shape l.pass.address (task_of l.pass.shape.link node)) (l.nodes) (drop l.i l.nodes) l.missed;
  inside : l.i ≤ length l.nodes;
  stays : SpaceStays g.S.Space.image g.S.Space.files g.S.Space.through g.S.Space.most l.fn.space l.space;
  quiet : g.S.Space.faults l.space ≡ g.S.Space.faults l.fn.space;
}

abbrev pub decreases-loop-i : goal.decreases-loop-i
decreases-loop-i g l = length l.nodes - l.i
