use Rattle.std.proofs.Common.{◌≡◌, ◌+◌, ◌*◌, ◌≤◌}
use Rattle.std.specs.Prelude.{IfSome}
use Rattle.kc_memory.specs.Stays.{SpaceStays}
use Rattle.kc_sight.specs.Looks.{words}
use Rattle.kc_sight.proofs.words.read_words.Given as goal

abbrev pub invariant-loop-i : goal.invariant-loop-i
invariant-loop-i g l = record {
  read : IfSome (g.S.Space.image l.fn.space) (λ image. l.words.items ≡ words image l.first l.i);
  stays : SpaceStays g.S.Space.image g.S.Space.files g.S.Space.through g.S.Space.most l.fn.space l.space;
  quiet : g.S.Space.faults l.space ≡ g.S.Space.faults l.fn.space;
  steps : l.steps ≤ l.fn.steps + g.S.Space.most l.fn.space * l.i;
}
