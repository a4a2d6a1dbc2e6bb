use Rattle.std.proofs.Common.{◌≡◌, ◌-◌, ◌++◌}
use Rattle.std.specs.List.{flat_map}
use Rattle.kc_memory.specs.Stays.{SpaceStays}
use Rattle.kc_bytes.specs.Bytes.{IsKept, onward}
use Rattle.kc_kallsyms.specs.Bytes.{bytes_at}
use Rattle.kc_kallsyms.specs.Going.{GoesAs}
use Rattle.kc_kallsyms.specs.Symbols.{token_of}
use Rattle.kc_kallsyms.specs.Views.{tokens_view}
use Rattle.kc_kallsyms.proofs.walk.push_tokens.Given as goal

abbrev pub invariant-loop-i : goal.invariant-loop-i
invariant-loop-i g l = record {
  goes : GoesAs (λ ns. l.text.items ≡ l.fn.text.items ++ flat_map (token_of (tokens_view l.tokens)) ns) (λ image. bytes_at image l.count l.fn.cursor.at) (λ image. bytes_at image (l.count - l.i) l.cursor.at) (g.S.Space.image l.fn.space);
  place : l.cursor.at ≡ onward l.fn.cursor.at l.i;
  kept : IsKept (g.S.Space.image l.space) l.cursor.word;
  stays : SpaceStays g.S.Space.image g.S.Space.files g.S.Space.through g.S.Space.most l.fn.space l.space;
  quiet : g.S.Space.faults l.space ≡ g.S.Space.faults l.fn.space;
}
