use Rattle.kc_outside.specs.declared.store.Slot.TheVariants.{Dump}
use Rattle.kc_outside.specs.Files.{content}
use Rattle.kc_command.specs.Kernels.{kernel_view}
use Rattle.kc_told.specs.Views.{shapes_view}
use Rattle.kc_why.proofs.HuntLemmas.{ready}
use Rattle.kc_why.proofs.WhyLemmas.{objects_read, rows_checked}
use Rattle.kc_why.proofs.files.prepare.Goals as goal

pub returns-in-Ok-clause-ready : goal.returns-in-Ok-clause-ready
returns-in-Ok-clause-ready g c =
    let kernel = c.args.kernel.now in
    let read = c.in_ok-symbols.ensures.made in
    let listed = rows_checked _ read.0 read.1 in
    ready (content (g.S.Store.files c.args.store.now) Dump (g.S.Store.opened c.args.store.now Dump)) (content (g.S.Store.files c.begin.new.store) Dump (g.S.Store.opened c.begin.new.store Dump)) c.args.aim (kernel_view kernel) read.0
    c.object_shape-shape.result c.in-Ok.hunt (rw c.as_slice-map.ensures.value at read.1)
    (objects_read (kernel_view kernel) read.0 c.note_of-note.result.now c.object_shape-shape.result (shapes_view c.in_ok-shapes.shapes) c.object_shape-shape.ensures (c.in_ok-shapes.ensures.exact read.0 listed read.2))
    c.in-Ok.ensures.told c.in-Ok.ensures.sought c.in-Ok.ensures.there
