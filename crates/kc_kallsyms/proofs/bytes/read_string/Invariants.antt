use Rattle.std.proofs.Common.{◌≡◌, ◌-◌}
use Rattle.kc_memory.specs.Stays.{SpaceStays}
use Rattle.kc_bytes.specs.Bytes.{IsKept}
use Rattle.kc_kallsyms.specs.Bytes.{string_at}
use Rattle.kc_kallsyms.specs.Going.{GoesAs}
use Rattle.kc_kallsyms.proofs.bytes.read_string.Given as goal

abbrev pub invariant-loop-i : goal.invariant-loop-i
invariant-loop-i g l = record {
  goes : GoesAs (λ bs. l.token.items ≡ bs) (λ image. string_at image l.number 512 l.fn.at) (λ image. string_at image l.number (512 - l.i) l.cursor.at) (g.S.Space.image l.fn.space);
  kept : IsKept (g.S.Space.image l.space) l.cursor.word;
  stays : SpaceStays g.S.Space.image g.S.Space.files g.S.Space.through g.S.Space.most l.fn.space l.space;
  quiet : g.S.Space.faults l.space ≡ g.S.Space.faults l.fn.space;
}
