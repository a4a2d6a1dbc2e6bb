use Rattle.kc_kinds.specs.Kernels.{kernel}
use Rattle.kc_owner.specs.Object.Shapes.{object_shape}
use Rattle.kc_slab_page.specs.Guards.{guard_shape}
use Rattle.kc_slab_page.specs.Marks.{slab_mark}
use Rattle.kc_slab_page.proofs.PageLemmas.{shape_is}
use Rattle.kc_slab_page.proofs.kernel.page_shape.Goals as goal

pub returns : goal.returns
returns c =
    shape_is (object_shape (kernel c.args.known.now)) (slab_mark (kernel c.args.known.now) c.args.note.now) (guard_shape (kernel c.args.known.now)) c.in_ok-objects.objects c.in_ok-mark.mark _ _ _
    c.in_ok-objects.ensures c.in_ok-mark.ensures c.guard_shape.ensures c.fence_shape.ensures
