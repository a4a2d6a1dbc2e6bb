use Rattle.std.proofs.Common.{◌≡◌, ◌+◌, ◌*◌, ◌^◌, ◌-◌, ◌<◌, ◌≤◌, length}
use Rattle.kc_memory.specs.Stays.{SpaceStays}
use Rattle.kc_found.specs.Going.{Reaches}
use Rattle.kc_list.proofs.HashWalk.{hashes}
use Rattle.kc_list.proofs.hlist.hchain.Given as goal

abbrev pub invariant-loop-from : goal.invariant-loop-from
invariant-loop-from g l = record {
  reaches : Reaches (hashes l.shape l.audit l.head) (g.S.Space.image l.fn.space) l.claims l.walked l.from;
  stays : SpaceStays g.S.Space.image g.S.Space.files g.S.Space.through g.S.Space.most l.fn.space l.space;
  quiet : g.S.Space.faults l.space ≡ g.S.Space.faults l.fn.space;
  fits : length l.walked < 2 ^ 64;
  steps : l.steps ≤ l.fn.steps + g.S.Space.most l.fn.space * (1 + 2 * length l.walked);
}

abbrev pub decreases-loop-from : goal.decreases-loop-from
decreases-loop-from g l = 2 ^ 64 - length l.walked
