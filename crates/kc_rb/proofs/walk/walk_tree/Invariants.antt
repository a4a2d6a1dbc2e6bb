use Rattle.std.proofs.Common.{◌≡◌, ◌+◌, ◌*◌, ◌^◌, ◌-◌, ◌<◌, ◌≤◌, length}
use Rattle.kc_memory.specs.Stays.{SpaceStays}
use Rattle.kc_rb.proofs.Descent.{AreDeep}
use Rattle.kc_rb.proofs.Rise.{Rises}
use Rattle.kc_rb.proofs.walk.walk_tree.Given as goal

abbrev pub invariant-loop-task : goal.invariant-loop-task
invariant-loop-task g l = record {
  rises : Rises (g.S.Space.image l.fn.space) l.shape l.asked l.head l.claims l.walked l.first l.pending.items;
  stays : SpaceStays g.S.Space.image g.S.Space.files g.S.Space.through g.S.Space.most l.fn.space l.space;
  quiet : g.S.Space.faults l.space ≡ g.S.Space.faults l.fn.space;
  deep : AreDeep (length l.claims) l.pending.items;
  fits : length l.claims < 2 ^ 64;
  steps : l.steps ≤ l.fn.steps + g.S.Space.most l.fn.space * (2 + 2 * length l.claims);
}

abbrev pub decreases-loop-task : goal.decreases-loop-task
decreases-loop-task g l = 2 ^ 64 - length l.claims + length l.pending.items
