use Rattle.std.proofs.Common.{◌≡◌, ◌++◌, map}
use Rattle.std.specs.Prelude.{IfSome}
use Rattle.kc_memory.specs.Stays.{SpaceStays}
use Rattle.kc_sight.specs.Holders.{holding}
use Rattle.kc_sight.specs.Lines.{row_in}
use Rattle.kc_sight.specs.Views.{symbol_view, symbols_holding}
use Rattle.kc_sight.proofs.holders.find_holders.Given as goal

-- what was found and what the lines that are left have come to what all lines have
abbrev pub invariant-loop-line : goal.invariant-loop-line
invariant-loop-line g l = record {
  goes : (goal.iterator-loop-line g).can_next l.line-iterator;
  ends : (goal.iterator-loop-line g).is_finite l.line-iterator;
  read : IfSome (g.S.Space.image l.fn.space) (λ i. map symbol_view l.found.items ++ holding i l.image.parts l.image.kaslr l.value (map row_in l.line-iterator) ≡ symbols_holding i l.image l.value);
  stays : SpaceStays g.S.Space.image g.S.Space.files g.S.Space.through g.S.Space.most l.fn.space l.space;
  quiet : g.S.Space.faults l.space ≡ g.S.Space.faults l.fn.space;
}
