use Rattle.kc_slab_page.proofs.fence.fence_by.Goals as goal

pub returns : goal.returns
returns c = rw (c.is_some.ensures, c.single.ensures, c.scalar_in.ensures.exact)
