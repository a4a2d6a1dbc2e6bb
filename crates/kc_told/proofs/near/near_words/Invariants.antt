use Rattle.std.proofs.Common.{◌≡◌, ◌++◌, drop, map}
use Rattle.std.specs.Prelude.{IfSome}
use Rattle.kc_memory.specs.Stays.{SpaceStays}
use Rattle.kc_told.specs.Near.{near_word}
use Rattle.kc_told.proofs.near.near_words.Given as goal

-- what was told, and what is still to be, are the whole
abbrev pub invariant-loop-seen : goal.invariant-loop-seen
invariant-loop-seen g l = record {
  told : IfSome (g.S.Space.image l.fn.space) (λ i. l.found.items ++ map (near_word i l.words.objects l.words.cpus) (drop l.seen-index l.near) ≡ map (near_word i l.words.objects l.words.cpus) l.near);
  stays : SpaceStays g.S.Space.image g.S.Space.files g.S.Space.through g.S.Space.most l.fn.space l.space;
  quiet : g.S.Space.faults l.space ≡ g.S.Space.faults l.fn.space;
}
