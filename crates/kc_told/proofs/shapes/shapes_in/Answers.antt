use Rattle.std.proofs.Common.{refl, ◌∙◌}
use Rattle.kc_syms.specs.Symbols.{symbol}
use Rattle.kc_sight.specs.declared.symbol.ImageMap.{ImageMap}
use Rattle.kc_told.proofs.ShapeLemmas.{parts_read, shapes_read, symbols_read}
use Rattle.kc_told.proofs.shapes.shapes_in.Goals as goal

pub returns-clause-exact : goal.returns-clause-exact
returns-clause-exact c read is same =
    let m : ImageMap = record { map = c.args.map; kaslr = c.args.info.kaslr; parts = c.parts_in.result } in
    shapes_read c.know_sights.ensures.holders c.args.types.now c.args.info c.args.note.now (symbol c.args.symbols.now) m read _ _ _ _ is same refl c.parts_in.ensures c.in_ok-words.ensures.objects c.in_ok-words.ensures.cpus c.in_ok-words.ensures.areas c.in_ok-words.ensures.symbols

pub returns-clause-symbols : goal.returns-clause-symbols
returns-clause-symbols c read is same =
    let m : ImageMap = record { map = c.args.map; kaslr = c.args.info.kaslr; parts = c.parts_in.result } in
    symbols_read c.know_sights.ensures.symbols c.know_sights.ensures.from m read is (c.parts_in.ensures ∙ parts_read c.args.info.kaslr (symbol c.args.symbols.now) read same)
