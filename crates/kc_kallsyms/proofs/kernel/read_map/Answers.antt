use Rattle.std.proofs.Common.{◌≡◌, Err, refl, rules}
use Rattle.kc_kallsyms.proofs.Making.{map_stops, mapped}
use Rattle.kc_kallsyms.proofs.kernel.read_map.Goals as goal

pub returns-in_err-kernel-clause-map : goal.returns-in_err-kernel-clause-map
returns-in_err-kernel-clause-map g c =
    let ended : c.from_residual.result ≡ Err c.in_err-kernel.field-0.0 = search rules in
    rw ended (map_stops (g.S.Space.image c.args.space.now) c.args.kaslr c.args.places.now _ c.in_err-kernel.ensures.kernel)

pub returns-clause-map : goal.returns-clause-map
returns-clause-map g c =
    mapped (g.S.Space.image c.args.space.now) c.args.kaslr c.args.places.now c.in_ok-kernel.kernel _ _ c.in_ok-kernel.ensures.kernel
    (rw c.in_ok-kernel.ensures.stays.same_image at c.in_ok-walk_symbols.ensures.symbols) refl (search rules)
