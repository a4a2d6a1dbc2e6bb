use Rattle.std.proofs.Common.{ap}
use Rattle.kc_owner.proofs.ObjectLemmas.SlabLemmas.{slab_told}
use Rattle.kc_owner.proofs.object.slab.slab_with.Goals as goal

pub returns-clause-exact : goal.returns-clause-exact
returns-clause-exact g c =
    slab_told (g.S.Space.image c.args.space.now) c.args.pass.now.shape c.args.pass.now.bases c.args.slab.now.at c.args.pass.now.pa c.args.cache c.args.slab.now.objects c.args.slab.now.counts c.page_of-start.result _ c.grid_of-grid.result c.spot_of-spot.result c.in_ok-free.free
    c.page_of-start.ensures c.grid_of-grid.ensures c.spot_of-spot.ensures (ap (λ v. v.at) c.view_at-view.ensures) c.in_ok-free.ensures.exact
