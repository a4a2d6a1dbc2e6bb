use Rattle.std.proofs.Common.{◌≡◌, ◌-◌, ◌≤◌, drop, length}
use Rattle.kc_memory.specs.Stays.{SpaceStays}
use Rattle.kc_owner.proofs.AreaLemmas.Grouping.{Grouping}
use Rattle.kc_owner.proofs.area.stacks.read_groups.Given as goal

abbrev pub invariant-loop-i : goal.invariant-loop-i
invariant-loop-i g l = record {
  so_far : Grouping (g.S.Space.image l.fn.space) l.shape l.leaders l.tasks (drop l.i l.leaders);
  inside : l.i ≤ length l.leaders;
  stays : SpaceStays g.S.Space.image g.S.Space.files g.S.Space.through g.S.Space.most l.fn.space l.space;
  quiet : g.S.Space.faults l.space ≡ g.S.Space.faults l.fn.space;
}

abbrev pub decreases-loop-i : goal.decreases-loop-i
decreases-loop-i g l = length l.leaders - l.i
