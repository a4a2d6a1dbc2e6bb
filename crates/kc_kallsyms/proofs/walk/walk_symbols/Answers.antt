use Rattle.std.proofs.Common.{◌≡◌, ◌∙◌, Err, arith, rules}
use Rattle.kc_memory.specs.Stays.{stays_on}
use Rattle.kc_kallsyms.specs.declared.stop.TableStop.TheVariants.{Table}
use Rattle.kc_kallsyms.specs.Symbols.{symbols_in}
use Rattle.kc_kallsyms.specs.Views.{entry_view, spot_of, symbol_view, tables_view, tokens_view}
use Rattle.kc_kallsyms.proofs.Loops.{symbols_come, symbols_go, symbols_halt, symbols_refused}
use Rattle.kc_kallsyms.proofs.walk.walk_symbols.Goals as goal

pub loop-number-preserved : goal.loop-number-preserved
loop-number-preserved g c =
    let so_far = c.loop-number.invariant in
    record {
      goes = symbols_go (g.S.Space.image c.args.space.now) (tokens_view c.args.tables.now.tokens.items) (λ image. symbols_in image c.args.places.now (tables_view c.args.tables.now)) c.args.tables.now.count c.loop-number.number
          (spot_of c.loop-number.walk.names c.loop-number.walk.offsets) (λ offset. entry_view c.read_entry.new.self offset) c.in_ok-offset.offset (symbol_view c.in_ok-symbol.symbol) (g.R.Rows.took c.args.rows.now c.loop-number.rows) (g.R.Rows.took c.args.rows.now _)
          so_far.goes (rw (so_far.stays.same_image, c.deref.ensures.value) at c.in_ok-offset.ensures.entry) (omega arith) (rw c.deref-in-loop-number.ensures.value at c.in_ok-symbol.ensures) (λ done taken. c.in_ok-take.ensures c.args.rows.now done taken);
      names = c.in_ok-offset.ensures.names;
      offsets = c.in_ok-offset.ensures.offsets;
      stays = stays_on g.S.Space.image g.S.Space.files g.S.Space.through g.S.Space.most _ _ _ so_far.stays c.in_ok-offset.ensures.stays;
      quiet = c.in_ok-offset.ensures.cause ∙ so_far.quiet;
    }

pub returns-in_err-offset-clause-symbols : goal.returns-in_err-offset-clause-symbols
returns-in_err-offset-clause-symbols g c =
    let so_far = c.loop-number.invariant in
    let ended : c.from_residual.result ≡ Err c.in_err-offset.field-0.0 = search rules in
    rw ended (symbols_halt (g.S.Space.image c.args.space.now) (tokens_view c.args.tables.now.tokens.items) (λ image. symbols_in image c.args.places.now (tables_view c.args.tables.now)) c.args.tables.now.count c.loop-number.number
    (spot_of c.loop-number.walk.names c.loop-number.walk.offsets) (g.R.Rows.took c.args.rows.now c.loop-number.rows) (λ offset. entry_view c.read_entry.new.self offset) _ so_far.goes (rw (so_far.stays.same_image, c.deref.ensures.value) at c.in_err-offset.ensures.entry) (omega arith))

pub returns-in_err-symbol-clause-symbols : goal.returns-in_err-symbol-clause-symbols
returns-in_err-symbol-clause-symbols g c =
    let so_far = c.loop-number.invariant in
    let ended : c.from_residual-in_err-symbol.result ≡ Err (Table c.in_err-symbol.field-0.0) = search rules in
    rw ended (symbols_refused (g.S.Space.image c.args.space.now) (tokens_view c.args.tables.now.tokens.items) (λ image. symbols_in image c.args.places.now (tables_view c.args.tables.now)) c.args.tables.now.count c.loop-number.number
    (spot_of c.loop-number.walk.names c.loop-number.walk.offsets) (λ offset. entry_view c.read_entry.new.self offset) c.in_ok-offset.offset (g.R.Rows.took c.args.rows.now c.loop-number.rows) _ so_far.goes (rw (so_far.stays.same_image, c.deref.ensures.value) at c.in_ok-offset.ensures.entry) (omega arith) (rw c.deref-in-loop-number.ensures.value at c.in_err-symbol.ensures))

pub returns-clause-symbols : goal.returns-clause-symbols
returns-clause-symbols g c =
    symbols_come (g.S.Space.image c.args.space.now) (tokens_view c.args.tables.now.tokens.items) (λ image. symbols_in image c.args.places.now (tables_view c.args.tables.now)) c.args.tables.now.count c.loop-number.number
    (spot_of c.loop-number.walk.names c.loop-number.walk.offsets) (g.R.Rows.took c.args.rows.now c.loop-number.rows) c.loop-number.invariant.goes (omega arith)
