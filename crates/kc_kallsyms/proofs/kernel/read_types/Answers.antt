use Rattle.std.proofs.Common.{◌≡◌, Err, rules}
use Rattle.kc_kallsyms.proofs.Making.{typed, types_stops}
use Rattle.kc_kallsyms.proofs.kernel.read_types.Goals as goal

pub returns-in_err-kernel-clause-types : goal.returns-in_err-kernel-clause-types
returns-in_err-kernel-clause-types g c =
    let ended : c.from_residual.result ≡ Err c.in_err-kernel.field-0.0 = search rules in
    rw ended (types_stops (g.S.Space.image c.args.space.now) c.args.kaslr c.args.places.now _ c.in_err-kernel.ensures.kernel)

pub returns-clause-types : goal.returns-clause-types
returns-clause-types g c =
    typed (g.S.Space.image c.args.space.now) c.args.kaslr c.args.places.now c.in_ok-kernel.kernel c.read_between.result c.in_ok-kernel.ensures.kernel
    (rw c.in_ok-kernel.ensures.stays.same_image at c.read_between.ensures.types)
