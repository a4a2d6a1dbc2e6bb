use Rattle.std.proofs.Common.{◌≡◌, Err, rules}
use Rattle.kc_kallsyms.proofs.Starting.{started, start_stops}
use Rattle.kc_kallsyms.proofs.kernel.read_list_start.Goals as goal

pub returns-in_err-kernel-clause-start : goal.returns-in_err-kernel-clause-start
returns-in_err-kernel-clause-start g c =
    let ended : c.from_residual.result ≡ Err c.in_err-kernel.field-0.0 = search rules in
    rw ended (start_stops (g.S.Space.image c.args.space.now) c.args.kaslr c.args.places.now c.args.list _ c.in_err-kernel.ensures.kernel)

pub returns-clause-start : goal.returns-clause-start
returns-clause-start g c =
    started (g.S.Space.image c.args.space.now) c.args.kaslr c.args.places.now c.args.list c.in_ok-kernel.kernel c.read_start.result c.in_ok-kernel.ensures.kernel
    (rw c.in_ok-kernel.ensures.stays.same_image at c.read_start.ensures.start)
