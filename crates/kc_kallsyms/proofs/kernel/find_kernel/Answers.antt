use Rattle.std.proofs.Common.{◌≡◌, Err, refl, rules}
use Rattle.kc_kallsyms.specs.declared.fault.TableFault.TheVariants.{S9}
use Rattle.kc_kallsyms.specs.declared.stop.TableStop.TheVariants.{Table}
use Rattle.kc_kallsyms.proofs.Finding.{found, no_reading, no_symbols, no_tables}
use Rattle.kc_kallsyms.proofs.kernel.find_kernel.Goals as goal

pub returns-in_err-tables-clause-kernel : goal.returns-in_err-tables-clause-kernel
returns-in_err-tables-clause-kernel g c =
    let ended : c.from_residual.result ≡ Err c.in_err-tables.field-0.0 = search rules in
    rw ended (no_tables (g.S.Space.image c.args.space.now) c.args.kaslr c.args.places.now _ c.in_err-tables.ensures.tables)

pub returns-in_err-walk_symbols-clause-kernel : goal.returns-in_err-walk_symbols-clause-kernel
returns-in_err-walk_symbols-clause-kernel g c =
    let ended : c.from_residual-in_err-walk_symbols.result ≡ Err c.in_err-walk_symbols.field-0.0 = search rules in
    rw ended (no_symbols (g.S.Space.image c.args.space.now) c.args.kaslr c.args.places.now c.in_ok-tables.tables _ c.in_ok-tables.ensures.tables
    (rw c.in_ok-tables.ensures.stays.same_image at c.in_err-walk_symbols.ensures.symbols))

pub returns-in_err-reading-clause-kernel : goal.returns-in_err-reading-clause-kernel
returns-in_err-reading-clause-kernel g c =
    let ended : c.from_residual-in_err-reading.result ≡ Err (Table S9) = search rules in
    rw ended (no_reading (g.S.Space.image c.args.space.now) c.args.kaslr c.args.places.now c.in_ok-tables.tables _ c.in_ok-tables.ensures.tables
    (rw c.in_ok-tables.ensures.stays.same_image at c.in_ok-walk_symbols.ensures.symbols) (search rules))

pub returns-clause-kernel : goal.returns-clause-kernel
returns-clause-kernel g c =
    found (g.S.Space.image c.args.space.now) c.args.kaslr c.args.places.now _ c.in_ok-reading.reading c.in_ok-tables.ensures.tables
    (rw c.in_ok-tables.ensures.stays.same_image at c.in_ok-walk_symbols.ensures.symbols) (search rules) refl
