use Rattle.std.proofs.Common.{◌≡◌, ◌-◌, map, vec_len}
use Rattle.kc_memory.specs.Stays.{SpaceStays}
use Rattle.kc_bytes.specs.Bytes.{IsKept}
use Rattle.kc_kallsyms.specs.Going.{GoesAs}
use Rattle.kc_kallsyms.specs.Tables.{tokens_at}
use Rattle.kc_kallsyms.proofs.tabled.read_tokens.Given as goal

abbrev pub invariant-loop-number : goal.invariant-loop-number
invariant-loop-number g l = record {
  goes : GoesAs (λ ts. map (λ t. t.items) l.tokens.items ≡ ts) (λ image. tokens_at image l.table 256 0 l.fn.index) (λ image. tokens_at image l.table (256 - l.number) l.number l.cursor.at) (g.S.Space.image l.fn.space);
  count : vec_len l.tokens ≡ l.number;
  kept : IsKept (g.S.Space.image l.space) l.cursor.word;
  stays : SpaceStays g.S.Space.image g.S.Space.files g.S.Space.through g.S.Space.most l.fn.space l.space;
  quiet : g.S.Space.faults l.space ≡ g.S.Space.faults l.fn.space;
}
