use Rattle.std.proofs.Common.{◌≡◌, ◌-◌}
use Rattle.kc_memory.specs.Stays.{SpaceStays}
use Rattle.kc_bytes.specs.Bytes.{IsKept}
use Rattle.kc_kallsyms.specs.Going.{GoesAs}
use Rattle.kc_kallsyms.specs.Symbols.{symbols_at, symbols_in}
use Rattle.kc_kallsyms.specs.Views.{spot_of, tables_view, tokens_view}
use Rattle.kc_kallsyms.proofs.walk.walk_symbols.Given as goal

abbrev pub invariant-loop-number : goal.invariant-loop-number
invariant-loop-number g l = record {
  goes : GoesAs (g.R.Rows.took l.fn.rows l.rows) (λ image. symbols_in image l.places (tables_view l.tables)) (λ image. symbols_at image (tokens_view l.tables.tokens.items) (l.tables.count - l.number) l.number (spot_of l.walk.names l.walk.offsets)) (g.S.Space.image l.fn.space);
  names : IsKept (g.S.Space.image l.space) l.walk.names.word;
  offsets : IsKept (g.S.Space.image l.space) l.walk.offsets.word;
  stays : SpaceStays g.S.Space.image g.S.Space.files g.S.Space.through g.S.Space.most l.fn.space l.space;
  quiet : g.S.Space.faults l.space ≡ g.S.Space.faults l.fn.space;
}
