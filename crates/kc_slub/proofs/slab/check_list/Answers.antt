use Rattle.std.proofs.Common.{rules}
use Rattle.kc_slub.proofs.Steps.{list_stops, list_short, list_good}
use Rattle.kc_slub.proofs.slab.check_list.Goals as goal

pub returns-in-Err-clause-exact : goal.returns-in-Err-clause-exact
returns-in-Err-clause-exact g c =
    list_stops _ _ (g.S.Space.image c.args.space.now) g.C.Chains.free_by c.args.pass.now.asked c.args.list.now.grid c.args.list.now.slab c.args.list.now.wanted c.args.list.now.inuse c.args.list.now.first (g.C.Rings.lists c.args.chains.now) c.in-Err.stop c.in-Err.ensures.exact

pub returns-clause-exact : goal.returns-clause-exact
returns-clause-exact g c =
    list_good (g.S.Space.image c.args.space.now) g.C.Chains.free_by c.args.pass.now.asked c.args.list.now.grid c.args.list.now.slab c.args.list.now.wanted c.args.list.now.inuse c.args.list.now.first (g.C.Rings.lists c.args.chains.now) _ c.in-Ok.free c.in-Ok.ensures.exact (search rules)

pub returns-then-len-wanted-clause-exact : goal.returns-then-len-wanted-clause-exact
returns-then-len-wanted-clause-exact g c =
    list_short _ (g.S.Space.image c.args.space.now) g.C.Chains.free_by c.args.pass.now.asked c.args.list.now.grid c.args.list.now.slab c.args.list.now.wanted c.args.list.now.inuse c.args.list.now.first (g.C.Rings.lists c.args.chains.now) _ c.in-Ok.free c.broken_field.result c.in-Ok.ensures.exact (search rules) c.broken_field.ensures
