use Rattle.std.proofs.Common.{refl}
use Rattle.kc_slab_page.proofs.fence.fence_shape.Goals as goal

pub returns : goal.returns
returns c = rw (c.fence_by.ensures, ← c.in_ok-pool.ensures, ← c.in_ok-metadata.ensures, ← c.in_ok-ty.ensures.exact, ← c.in_ok-size.ensures.exact) refl
