use Rattle.std.proofs.Common.{rules}
use Rattle.kc_syms.specs.Symbols.{symbol}
use Rattle.kc_cause.specs.Files.{kernel_read, planned_view}
use Rattle.kc_cause.proofs.PlannedLemmas.{planned_stops, planned_told, slabs_read}
use Rattle.kc_cause.proofs.planned.find_plan.Goals as goal

pub returns-clause-told : goal.returns-clause-told
returns-clause-told g c =
    let read = c.in_ok-symbols.ensures.made in
    let k = c.args.kernel.now in
    planned_told (g.S.Store.files c.args.store.now) c.args.name.now (kernel_read k) k.note.now _ c.in_ok-bytes.bytes read.0 c.in_ok-plan.plan c.in_ok-shapes.shapes c.in_ok-slabs.slabs
    (search rules) c.in_ok-bytes.ensures.told (search rules) (search rules) (slabs_read k.types.now k.info k.note.now (symbol c.in_ok-symbols.symbols) read.0 c.in_ok-slabs.slabs read.2 c.in_ok-slabs.ensures) (search rules)

pub returns-in_err-plan-clause-told : goal.returns-in_err-plan-clause-told
returns-in_err-plan-clause-told g c =
    let read = c.in_ok-symbols.ensures.made in
    let k = c.args.kernel.now in
    planned_stops (g.S.Store.files c.args.store.now) c.args.name.now (kernel_read k) k.note.now _ planned_view c.in_ok-bytes.bytes read.0 c.in_err-plan.field-0.0 _
    (search rules) c.in_ok-bytes.ensures.told (rw c.deref.ensures.value at c.in_err-plan.ensures.made read.0 read.2) (search rules)
