use Rattle.std.proofs.Common.{◌≡◌, ◌+◌, ◌*◌, ◌^◌, ◌-◌, ◌<◌, ◌≤◌, length}
use Rattle.kc_memory.specs.Stays.{SpaceStays}
use Rattle.kc_found.specs.FreeLists.{free_first}
use Rattle.kc_found.specs.Going.{Reaches}
use Rattle.kc_slub.proofs.FreeWalk.{frees}
use Rattle.kc_slub.proofs.free.free_walk.Given as goal

abbrev pub invariant-loop-led : goal.invariant-loop-led
invariant-loop-led g l = record {
  reaches : Reaches (frees l.grid (record { audit = l.audit; start = l.start }) (free_first l.fn.first)) (g.S.Space.image l.fn.space) l.claims l.walked l.led;
  stays : SpaceStays g.S.Space.image g.S.Space.files g.S.Space.through g.S.Space.most l.fn.space l.space;
  quiet : g.S.Space.faults l.space ≡ g.S.Space.faults l.fn.space;
  fits : length l.walked < 2 ^ 64;
  steps : l.steps ≤ l.fn.steps + g.S.Space.most l.fn.space * (2 * length l.walked);
}

abbrev pub decreases-loop-led : goal.decreases-loop-led
decreases-loop-led g l = 2 ^ 64 - length l.walked
