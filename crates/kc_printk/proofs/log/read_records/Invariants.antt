use Rattle.std.proofs.Common.{◌≡◌, ◌-◌}
use Rattle.kc_memory.specs.Stays.{SpaceStays}
use Rattle.kc_printk.specs.Log.{lines}
use Rattle.kc_printk.proofs.LineLemmas.{IsPartly}
use Rattle.kc_printk.proofs.log.read_records.Given as goal

-- the lines so far, and those of the ids that are left, are all
abbrev pub invariant-loop-i : goal.invariant-loop-i
invariant-loop-i g l = record {
  read : IsPartly (g.S.Space.image l.fn.space) (λ image. lines image l.log l.ids l.log.ring.first l.log.ring.size) l.text.items l.log (l.ids - l.i) l.id l.room;
  stays : SpaceStays g.S.Space.image g.S.Space.files g.S.Space.through g.S.Space.most l.fn.space l.space;
  quiet : g.S.Space.faults l.space ≡ g.S.Space.faults l.fn.space;
}
